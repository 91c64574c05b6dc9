-- What the tabulate program's proofs cite.
pub mod Room
