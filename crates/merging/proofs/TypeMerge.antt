-- The merge on bytes.
pub mod OneAddend
pub mod MergeLoop
