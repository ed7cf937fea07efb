-- The answers of the reader.
pub mod Readings
