-- Laws of the columns of a set, which the crates above cite.
pub mod Jobs
pub mod Views
pub mod Entries
