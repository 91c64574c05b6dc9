-- The laws behind the contracts; a folder for each function's proof.
pub mod Marks
pub mod MarksHold
pub mod Laid
pub mod NextItem
pub mod FieldKey
pub mod Starts
pub mod ValueRead
pub mod ValueAt
pub mod ItemRead
pub mod ReadUpTo
pub mod LoopFacts
pub mod InFront
