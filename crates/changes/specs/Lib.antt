-- A link put in or withdrawn: what the calls promise, and any sequence of them.
pub mod Calls
pub mod Run
