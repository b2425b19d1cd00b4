-- The groups at k that hold each account: the rows, tops of groups and groups of links, rows packed in place, and what these mean.
pub mod Pools
pub mod Tops
pub mod Packing
pub mod Held
