-- A day tried on an index: what the calls promise, and the ways to it.
pub mod Trial
