-- Document 000, proved of the merge of types and of profiles.
pub mod Addends
pub mod Keys
pub mod Labels
pub mod Reduce
pub mod Infers
