-- Which tries are types: what profiles and merges keep.
pub mod Parts
pub mod Keys
pub mod Reduce
pub mod Profile
