-- The code's comparisons of labels and key lists.
pub use Rattle.counting_theory.specs.Order.{ordering_of}
