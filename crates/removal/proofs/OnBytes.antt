-- Removal on bytes.
pub mod Placing
pub mod Steps
pub mod OneAddend
pub mod RemovalLoop
pub mod Stored
