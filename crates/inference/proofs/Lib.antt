-- The laws behind inference; a folder for each function's proof.
pub mod InPlace
