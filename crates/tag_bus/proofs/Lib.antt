-- The laws behind the tag-bus inference; a folder for each function's proof.
pub mod Labels
pub mod Worded
pub mod Exact
pub mod TableKeys
pub mod Agrees
pub mod Flat
pub mod Pass
pub mod Fronts
pub mod Trials
