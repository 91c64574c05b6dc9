-- The law behind the exported functions; a folder for each function's proof.
pub mod Told
