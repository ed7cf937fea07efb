-- Laws that the proofs of the runs cite; Room serves the tables too.
pub mod Overruns
pub mod Starts
pub mod Steps
pub mod Progress
pub mod Advance
pub mod Room
pub mod Refused
pub mod SlotAnswers
pub mod RangeLaws
