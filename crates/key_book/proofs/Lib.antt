-- The laws behind the functions; a folder for each function's proof.
pub mod Halving
pub mod GoodBook
pub mod Words
pub mod Matching
