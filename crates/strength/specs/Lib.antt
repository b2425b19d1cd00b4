-- What `strengths` says.
pub mod Whole
