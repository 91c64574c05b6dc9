-- What a call answers, by document 01's numbers.
pub mod Outcomes
pub mod Inside
