-- The reader of texts: what its call answers.
pub mod Answer
pub mod Faults
pub mod Inside
