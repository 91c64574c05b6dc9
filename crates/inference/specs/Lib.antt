-- What the contracts of inference cite beside the theory.
pub mod Inside
