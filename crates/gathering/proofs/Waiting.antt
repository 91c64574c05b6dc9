-- The laws behind the messages that wait to be added.
pub mod Slots
pub mod SlotBytes
pub mod Messages
pub mod GatherLoop
pub mod Added
pub mod Settled
