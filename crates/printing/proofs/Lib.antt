-- Laws on the lines that are printed, and the proofs of the functions.
pub mod JobLaws
pub mod PageLaws
pub mod Bounds
pub mod Whole
