-- Laws that the proofs of the pick cite.
pub mod Ready
