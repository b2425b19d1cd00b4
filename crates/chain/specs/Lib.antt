-- The shortest chain of triangles between two links: triangles by their accounts; the search; the chain that it leaves; its bytes; the links of strength at least
-- k as a graph of their own; an index's bytes.
pub mod Corners
pub mod Wave
pub mod Follow
pub mod Search
pub mod Ways
pub mod Write
pub mod Strong
pub mod Load
pub mod Between
