-- What contracts inside the crates of the reader and their proofs cite, and no public promise.
pub mod Tokens
