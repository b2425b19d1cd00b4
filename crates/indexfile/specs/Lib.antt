-- The index's bytes, from the columns of a solved work space.
pub mod Rows
pub mod Comparing
pub mod Same
