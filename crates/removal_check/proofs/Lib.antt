-- The laws behind the check of removal's types, and what removal leaves in the arena; a folder for each function's proof.
pub mod Exact
pub mod Fronts
pub mod OnePass
