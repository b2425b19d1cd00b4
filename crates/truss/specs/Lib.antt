-- What the linked-account index means: every definition that a reader must believe, in the order of document 01. No code and no laws.
-- Bytes and numbers are natural numbers, so each definition holds of any list of numbers; a list of bytes is one whose numbers are below 256.
pub mod Limits
pub mod Lists
-- accounts, links, triangles; strength; chains and groups
pub mod Graph
pub mod Strength
pub mod Chain
pub mod Forest
pub mod Group
pub mod Shortest
pub mod Support
-- the two files
pub mod Refusal
pub mod Record
pub mod LinksFile
pub mod Index
pub mod IndexFile
-- questions, whole calls, the two programs' text
pub mod Question
pub mod Call
pub mod Change
pub mod Listing
pub mod Bets
-- what a refused call leaves; what question G answers; the window and the record as bytes; what question A answers; what C, D and E list; tallies over a run of questions
pub mod Kept
pub mod Ways
pub mod Windows
pub mod Firmness
pub mod Order
pub mod Run
-- demand 3
pub mod Stored
pub mod Demand3
-- lone links
pub mod Lone
-- a link put in or withdrawn, and any sequence of changes
pub mod Changes
-- a limit tried on a day's bets
pub mod Trial
-- the worked cases; the statements spelled out
pub mod Cards
pub mod Cases
pub mod StrengthCases
pub mod ChainCases
pub mod OrderCases
pub mod LoneCases
pub mod WholeCalls
pub mod DeskCases
pub mod ChangeCases
pub mod BetsCases
pub mod Figures
pub mod Spelled
