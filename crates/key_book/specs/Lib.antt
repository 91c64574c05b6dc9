-- What the contracts on a key book cite beside the theory.
pub mod Inside
