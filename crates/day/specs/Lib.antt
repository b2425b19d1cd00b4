pub mod Records
pub mod Checks
pub mod Sums
pub mod Playing
