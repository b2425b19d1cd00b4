-- What the functions of the peeling say, and why it is so.
pub mod Bare
pub mod Rest
pub mod Seed
pub mod Drain
pub mod Peel
