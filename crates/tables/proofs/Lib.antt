-- Laws that the proofs of the tables cite.
pub mod Slots
pub mod Turns
pub mod Answers
