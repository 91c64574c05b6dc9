-- The laws behind the calls; a folder for each function's proof.
pub mod Buffers
pub mod InferredFront
