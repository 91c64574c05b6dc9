-- What contracts inside the crate and its proofs cite, and no public promise.
pub mod Layout
pub mod Places
pub mod Arena
pub mod Addend
pub mod Runs
pub mod LabelOrder
pub mod Payload
