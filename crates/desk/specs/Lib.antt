-- What a question to the desk promises, and why.
pub mod Desk
pub mod DeskBytes
pub mod Run
