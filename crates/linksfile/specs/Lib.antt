-- Links files: the faults of one record, the walk over the records, and the graph that sorted keys name.
pub mod Records
pub mod SortedLinks
pub mod Load
pub mod Leaves
pub mod Answers
pub mod Checks
