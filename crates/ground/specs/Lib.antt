-- The words that the statements of proofs/ need beside theory's.
pub mod Promises
pub mod Texts
