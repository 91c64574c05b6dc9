-- The laws behind the merge's loops; a folder for each function's proof.
pub mod TypeMerge
