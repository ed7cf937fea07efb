-- The words that the statements of Results need beside the model's.
pub mod Orders
pub mod Weaker
pub mod Eased
pub mod Without
pub mod Misses
pub mod Signs
pub mod Words
