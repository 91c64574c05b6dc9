-- Types as bytes: the record layout, and reading back what was written.
pub mod Header
pub mod Node
pub mod Decode
pub mod Bytes
