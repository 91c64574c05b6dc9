-- What the contracts of the check of removal's types cite beside the theory.
pub mod Inside
