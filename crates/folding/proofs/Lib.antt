-- The laws behind folding; a folder for each function's proof.
pub mod Relabel
pub mod KindType
pub mod KindTagged
pub mod KindNodes
pub mod KindIsType
pub mod Calls
pub mod Trials
pub mod OnBytes
