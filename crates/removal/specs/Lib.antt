-- What removal answers, and what its contracts cite beside the theory.
pub mod Difference
pub mod Removed
pub mod Trials
pub mod Inside
