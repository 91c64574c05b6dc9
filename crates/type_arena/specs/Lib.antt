-- What the contracts on type records cite beside the theory.
pub mod Inside
