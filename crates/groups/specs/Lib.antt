-- The mathematics of the code's turns.
pub mod Marking
pub mod Numbering
pub mod Naming
pub mod Level
pub mod Tree
pub mod Whole
