-- The theory of tries, over any order of labels and any payload.
pub mod Join
pub mod Lookup
pub mod Sorted
pub mod Canonical
pub mod Profile
pub mod Growth
pub mod Sizes
