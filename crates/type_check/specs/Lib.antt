-- What the contracts of the check cite beside the theory.
pub mod Inside
