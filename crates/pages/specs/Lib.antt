-- What is to be printed, as a value, and its lines.
pub mod Pages
pub mod Lines
