-- The laws of numbers and records in bytes; a folder for each function's proof.
pub mod Number
pub mod Numbers
pub mod Format
pub mod Sets
pub mod Gap
pub mod Clear
pub mod Tests
pub mod Chain
