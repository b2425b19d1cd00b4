-- The accounts and links of each group, counted: ways up, the touches of a round, rounds, the links of an account, and what the functions ask and give.
pub mod Paths
pub mod Touching
pub mod Counting
pub mod Ends
pub mod Gives
