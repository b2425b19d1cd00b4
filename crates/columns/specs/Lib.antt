-- The work space: its cells, the laws of a store, columns at zero.
pub mod Columns
pub mod Laws
pub mod Wiping
pub mod Named
