-- The laws behind the functions; a folder for each function's proof.
pub mod Tokens
pub mod Strings
pub mod Numbers
