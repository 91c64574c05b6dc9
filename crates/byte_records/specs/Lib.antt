-- Numbers and records in bytes.
pub mod Number
pub mod Format
pub mod Inside
