-- The mathematics of the reader.
pub mod Decimals
pub mod Numbers
pub mod Scans
pub mod Lines
pub mod Sections
pub mod Accepted
pub mod Reader
pub mod Answers
pub mod Lengths
