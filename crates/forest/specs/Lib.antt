-- The mathematics of the code's turns.
pub mod Rows
pub mod Gather
pub mod Listed
pub mod Visit
pub mod Level
pub mod Sweep
