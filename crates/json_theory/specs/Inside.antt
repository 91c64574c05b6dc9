-- What only proofs and contracts inside the crates above cite.
pub mod Derivative
pub mod Remaining
pub mod Run
pub mod Scanning
