-- What the contracts of the merge cite beside the theory.
pub mod Inside
