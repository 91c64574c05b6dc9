-- The laws behind the loops; a folder for each function's proof.
pub mod Waiting
