-- What only proofs and contracts inside the crates above cite.
pub mod TrieLaws
pub mod Times
pub mod TypeBytes
pub mod RecordsHold
