-- The meaning of document 01, in its order. Only these files have to be believed.
pub mod Lists
pub mod Sets
pub mod Runs
pub mod Scenarios
pub mod Tables
pub mod Refusals
pub mod Answers
pub mod Texts
pub mod Printed
