-- The pass on bytes: the type read under kind, where a field is looked for, one addend added, a run added, and the whole type.
pub mod ReadByKind
pub mod Starts
pub mod FieldStart
pub mod FirstAdded
pub mod RunAdded
pub mod WholeType
