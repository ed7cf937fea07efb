-- What follows from the meaning of document 01. A reader wants Results; the other files lead to it.
pub mod Orders
pub mod Counting
pub mod Embeddings
pub mod Without
pub mod Kept
pub mod Passes
pub mod PhaseOne
pub mod Scenarios
pub mod PhaseTwo
pub mod Dominance
pub mod Verdicts
pub mod Fitness
pub mod Margins
pub mod Views
pub mod AtP
pub mod Results
