-- The marked groups as C, D and E list them: keys, rows of numbers, and what the functions ask and give.
pub mod Keys
pub mod Rows
pub mod Gives
