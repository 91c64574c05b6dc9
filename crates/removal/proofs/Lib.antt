-- The laws behind removal; a folder for each function's proof.
pub mod Difference
pub mod Remains
pub mod Taken
pub mod LabelFields
pub mod RemovedTypes
pub mod Merges
pub mod Exact
pub mod Trials
pub mod CountLimit
pub mod OnBytes
pub mod WholeTypes
