-- What the functions find in the parts of a text.
pub mod Parts
