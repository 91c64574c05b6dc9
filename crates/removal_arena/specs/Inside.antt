-- What contracts inside the crate and its proofs cite, and no public promise.
pub mod Arena
pub mod Addend
pub mod Runs
pub mod Places
