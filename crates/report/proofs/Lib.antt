-- The laws behind the statements; a folder for each function's proof.
pub mod Digits
pub mod Storing
pub mod Words
pub mod Shares
pub mod Runs
pub mod Largest
pub mod Walking
pub mod TypeRun
pub mod Program
pub mod PrintedShares
pub mod Example
