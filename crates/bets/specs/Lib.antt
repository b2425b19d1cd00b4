-- A limit tried on a day's bets: what the calls promise; records as a slice of structs.
pub mod Row
pub mod Limit
pub mod Closing
