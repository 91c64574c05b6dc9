-- What the contracts on items cite beside the theory.
pub mod Inside
