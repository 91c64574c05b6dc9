-- The laws behind the loops over type records and buffers; a folder for each function's proof.
pub mod Comparing
pub mod Fields
pub mod Nodes
pub mod RecordBytes
pub mod PayloadBytes
pub mod FirstAddend
pub mod Runs
pub mod UnionTotal
