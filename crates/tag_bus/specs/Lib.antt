-- What the tag-bus inference writes and answers.
pub mod Entries
pub mod TagBus
pub mod Trials
pub mod Inside
