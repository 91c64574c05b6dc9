-- The laws behind the statements on removal's types, in records of 16 bytes.
pub mod Payload
pub mod Label
pub mod Tagged
pub mod Encoding
pub mod Values
pub mod WellFormed
pub mod Ways
