-- Laws that the proofs of this crate's functions share, and that those of the reader cite.
pub mod Digits
pub mod Given
pub mod Unique
