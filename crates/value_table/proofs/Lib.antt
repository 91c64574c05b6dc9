-- The laws behind the promises; a folder for each function's proof.
pub mod TableLayout
pub mod Header
pub mod Keys
pub mod Faultless
pub mod Run
pub mod Decode
pub mod Nested
pub mod Rest
pub mod Walked
pub mod EarlierFields
pub mod Latest
pub mod Levels
pub mod WalkLoop
pub mod Acceptance
pub mod Stores
pub mod LargestKey
