-- The laws of the type of some values.
pub mod Join
pub mod Every
pub mod Tally
pub mod Labels
pub mod Raw
pub mod Contents
pub mod Having
pub mod Counted
pub mod Totals
pub mod KeyList
pub mod Others
pub mod Sound
