-- What merges of removal's types write.
pub mod Calls
pub mod Merges
