-- What the calls that write a type leave in the buffers lent to them.
pub mod Exact
pub mod Fronts
