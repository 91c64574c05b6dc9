-- The check of one of removal's types in one pass over its 16-byte records accepts exactly the well-formed types.
pub mod OwnRecords
pub mod Ruled
pub mod Rest
pub mod Node
pub mod Content
pub mod Accepts
pub mod AcceptsExactly
