-- What folding answers, and what its contracts cite beside the theory.
pub mod Fold
pub mod Folded
pub mod Trials
pub mod Inside
