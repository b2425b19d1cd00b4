-- What the bytes of an index say of its links and groups.
pub mod Places
pub mod Rows
pub mod Find
pub mod Climb
pub mod Opened
pub mod Opening
