-- The laws of key sets as words; a folder for each function's proof.
pub mod Word
pub mod Ascending
pub mod Lowest
pub mod Building
