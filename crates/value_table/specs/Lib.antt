-- The statements of the lower library, in the order of document 01.
pub mod Value
pub mod Outcome
pub mod Judged
pub mod Acceptance
pub mod Inside
