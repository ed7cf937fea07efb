-- Laws on pages, numerals and lines, and the proofs of the writers.
pub mod Puts
pub mod Numerals
pub mod LineLaws
pub mod Lengths
