-- The laws of counts in removal's types.
pub mod Totals
