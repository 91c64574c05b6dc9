-- The laws behind the functions; a folder for each function's proof.
pub mod Leads
pub mod Keys
pub mod Items
