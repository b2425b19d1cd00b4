-- The laws of the definitions, in reading order.

-- lists, tests, counts
pub mod Lists
pub mod Members
pub mod Sets
pub mod Proper
pub mod ProperLinks
pub mod Numbers
pub mod Sums
-- strength
pub mod Peeling
pub mod Rounds
-- a set of links loses one link: which supports fall
pub mod Lowering
pub mod TriangleWalk
-- chains, components, the forest
pub mod Chains
pub mod Components
pub mod Connected
-- groups and their tree
pub mod Groups
pub mod Stored
pub mod Tree
pub mod ForestPaths
pub mod Meaning
pub mod Answers
-- the two files
pub mod Ordering
pub mod Accepted
pub mod Decoding
-- demand 3; the reader; refused calls
pub mod Agree
pub mod Demand3
pub mod Reading
pub mod Refused
-- the order in which a program writes joins and groups
pub mod JoinOrder
pub mod GroupOrder
-- bounds
pub mod Bound
pub mod Size
pub mod Bytes
-- the code that grows the forest and numbers the groups
pub mod UnionFind
pub mod Unions
pub mod Halving
pub mod Sides
pub mod InOrder
pub mod Kruskal
pub mod Weights
pub mod GroupPlaces
-- the shortest chain between two links (question G); the triangles that hold a link (question A); lone links; the order in which groups are listed (questions C, D and E)
pub mod Shortest
pub mod Support
pub mod Lone
pub mod ShortestRoom
pub mod Listed
-- tallies over a run of questions; the window, the record as bytes
pub mod Run
pub mod Windows
-- a link put in or withdrawn, and any sequence of changes
pub mod Changes
-- a limit tried on a day's bets
pub mod Bets
-- what trying a limit gives
pub mod Trial
