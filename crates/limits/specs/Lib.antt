-- The strength type.
pub mod Range
-- The numbers of the refusals.
pub mod Refusals
