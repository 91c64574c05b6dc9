-- What the contracts of inference of a whole table cite beside the theory.
pub mod Inside
