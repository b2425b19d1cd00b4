-- Which groups hold all named accounts: ranks of accounts, marks of groups, and why they are right.
pub mod Marks
pub mod Ranks
pub mod Held
pub mod Turns
