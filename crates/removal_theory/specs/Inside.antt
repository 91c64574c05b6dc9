-- What only proofs and contracts inside the crates above cite.
pub mod TypeBytes
pub mod RecordsHold
