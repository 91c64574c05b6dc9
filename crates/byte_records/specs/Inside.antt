-- What only proofs cite.
pub mod Fits
pub mod Chain
pub mod Numbers
