-- Removal's types as bytes: the layout of their 16-byte records, and reading back what was written.
pub mod Header
pub mod Node
pub mod Decode
pub mod Bytes
