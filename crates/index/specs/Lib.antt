-- What the build, the opening and the reading promise, and why.
pub mod Solved
pub mod Build
pub mod Answered
pub mod BuildDemand3
pub mod Strong
pub mod Open
pub mod Read
pub mod ReadsBack
