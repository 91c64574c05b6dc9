-- The check of a type in one pass over its records accepts exactly the well-formed types; the turns of its loops.
pub mod Fits
pub mod OwnRecords
pub mod OneRecord
pub mod Ruled
pub mod Rest
pub mod Node
pub mod Content
pub mod Accepts
pub mod AcceptsExactly
pub mod CheckLoop
pub mod Loops
