-- The mathematics of the code's turns.
pub mod Space
pub mod Find
pub mod State
pub mod Joins
