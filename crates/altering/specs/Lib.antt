-- The keys of an index's links with one more, and with one less.
pub mod Entries
pub mod Keys
