-- What the lister's rows are made of, and why they are right.
pub mod Rows
