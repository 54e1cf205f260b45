-- The laws that the proofs and other crates cite, the theorems and the samples.
pub mod Comparisons
pub mod Starts
pub mod Fronts
pub mod Formed
pub mod Answered
pub mod Theorems
pub mod Samples
pub mod Unread
