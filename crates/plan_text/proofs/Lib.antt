-- Laws that the proofs of this crate's functions share.
pub mod Steps
pub mod Counts
pub mod Several
pub mod Rows
pub mod Orders
pub mod Jobs
pub mod Plans
