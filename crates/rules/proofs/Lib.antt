-- Laws that the proofs of this crate's functions share.
pub mod Laws
pub mod Faults
pub mod Members
