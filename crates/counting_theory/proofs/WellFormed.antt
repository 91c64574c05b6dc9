-- Well-formed types: what profiles and merges keep, and which bytes are one.
pub mod Tests
pub mod Nodes
pub mod Limit
pub mod Fields
pub mod Reduce
pub mod Profile
pub mod Closed
pub mod Places
pub mod Rules
pub mod Fitting
pub mod Record
pub mod RecordsHold
pub mod LaidOut
pub mod AcceptsExactly
