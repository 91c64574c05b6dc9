-- What the contracts of the scanners cite beside the theory.
pub mod Inside
