-- What the removal of one link says, and why it is so.
pub mod Queue
pub mod State
pub mod Level
pub mod Left
pub mod Marks
pub mod Shrink
pub mod Take
pub mod Turn
pub mod Centre
pub mod Remove
