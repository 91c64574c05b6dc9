-- The statements about JSON text, in reading order: the key book; the grammar of RFC 8259; one definition that reads from the left;
-- and what its answers mean.
pub mod Book
pub mod Rx
pub mod Grammar
pub mod Rfc
pub mod Parts
pub mod Steps
pub mod Reader
pub mod Promises
pub mod Places
pub mod Trials
pub mod Inside
