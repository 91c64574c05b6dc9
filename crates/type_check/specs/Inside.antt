-- What the contracts inside are stated with: the check in one pass over records of any size, and the judging of two types before a call.
pub mod Reading
pub mod Checker
pub mod Pair
