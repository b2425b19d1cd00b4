-- What the questions promise, and why.
pub mod Replies
pub mod Checks
pub mod Lists
pub mod Links
pub mod Levels
pub mod Named
pub mod Asked
pub mod Answer
pub mod Ways
