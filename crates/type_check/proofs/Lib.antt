-- The laws behind the check's loops; a folder for each function's proof.
pub mod OnePass
