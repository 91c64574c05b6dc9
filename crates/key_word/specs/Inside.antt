-- What contracts inside the libraries and their proofs cite, and no public promise.
pub mod Fields
