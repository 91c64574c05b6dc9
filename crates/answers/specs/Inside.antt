-- What contracts inside the calls and their proofs cite, and no public promise.
pub mod Front
