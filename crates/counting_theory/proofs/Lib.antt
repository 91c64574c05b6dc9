-- The laws behind the statements.
pub mod Order
pub mod Trie
pub mod KeyList
pub mod Payload
pub mod KeyOrder
pub mod LabelOrder
pub mod Label
pub mod Tagged
pub mod Encoding
pub mod Published
pub mod Values
pub mod Times
pub mod Lengths
pub mod WellFormed
pub mod Ways
pub mod Trials
