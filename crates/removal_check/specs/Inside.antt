-- What the contracts inside are stated with: how the check reads 16-byte records, and the judging of two types before a call.
pub mod Reading
pub mod Pair
