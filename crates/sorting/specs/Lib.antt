-- Sorting records by their keys: chains of records, the order they give, and both in the work space.
pub mod Chains
pub mod Order
pub mod State
pub mod Kept
pub mod Gives
