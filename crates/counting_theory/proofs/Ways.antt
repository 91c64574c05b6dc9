-- Every way of bringing messages together ends as the profile of all the messages says.
pub mod Weights
pub mod Parts
pub mod AllMessages
pub mod Pull
pub mod Runs
pub mod Calls
pub mod Merges
pub mod Written
pub mod Ends
pub mod Occurrences
pub mod Same
pub mod Alike
pub mod Every
