-- Well-formed types of removal's: what merges keep, and which bytes are one.
pub mod Nodes
pub mod Limit
pub mod Fields
pub mod Reduce
pub mod Closed
pub mod Rules
pub mod Fitting
pub mod Record
pub mod RecordsHold
pub mod LaidOut
pub mod AcceptsExactly
