-- Laws that the proofs of this crate's functions share, and what those who call `check` know of its result.
pub mod Checked
pub mod Marks
pub mod Firsts
