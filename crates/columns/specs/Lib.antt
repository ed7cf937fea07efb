-- What the columns are, and what they spell out.
pub mod Columns
