-- The statements about types in records of 16 bytes, which removal alone works on; where they know nothing of the payload or the record
-- size they are those of counting_theory.
pub mod Payload
pub mod Label
pub mod Place
pub mod Encoding
pub mod WellFormed
pub mod Answers
pub mod Trials
pub mod Inside
