-- What contracts inside the crate and its proofs cite, and no public promise.
pub mod Folding
