-- What the functions say of the adjacency lists and marks, and why it is so.
pub mod State
pub mod Lists
pub mod Centres
pub mod Walk
pub mod Marking
