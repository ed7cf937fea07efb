-- Laws that the proofs of the verdicts cite.
pub mod Entries
pub mod Raised
pub mod Search
pub mod Scenarios
pub mod RowLaws
pub mod Carried
pub mod Pairs
pub mod Found
pub mod AnswerLaws
