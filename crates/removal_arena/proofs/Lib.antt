-- The laws behind the loops over 16-byte type records and buffers; a folder for each function's proof.
pub mod Nodes
pub mod RecordBytes
pub mod FirstAddend
pub mod Runs
