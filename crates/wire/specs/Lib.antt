-- What the readers and writers of records say.
pub mod Wire
pub mod Writing
pub mod RowBytes
