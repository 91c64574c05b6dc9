-- The report of a type: numbers in decimal, lines, the whole text, and examples.
pub mod Decimal
pub mod Line
pub mod Report
pub mod Example
pub mod Inside
