-- What the contracts on removal's type records, of 16 bytes, cite beside the theory.
pub mod Inside
