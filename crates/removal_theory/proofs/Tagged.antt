-- Which tries are types of removal's: what merges keep.
pub mod Parts
pub mod Keys
pub mod Reduce
