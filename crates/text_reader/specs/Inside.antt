-- What contracts inside the reader and its proofs cite, and no public promise.
pub mod Laid
pub mod Marks
pub mod Progress
pub mod Items
