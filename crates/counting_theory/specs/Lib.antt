-- The statements about counting types: generic tries; then those of document 01, in its order; then those of document 000.
pub mod Order
pub mod Trie
pub mod Payload
pub mod Label
pub mod Raw
pub mod Place
pub mod Lengths
pub mod Encoding
pub mod WellFormed
pub mod Answers
pub mod Ways
pub mod Trials
pub mod Published
pub mod Inferred
pub mod Meaning
pub mod Inside
