-- The laws that the proofs and other crates cite, the theorems and the samples.
pub mod BoundsRead
pub mod Folded
pub mod Points
pub mod FoldAgain
pub mod PastCounts
pub mod Runs
pub mod Results
pub mod Constraints
pub mod Assembled
pub mod Theorems
pub mod Samples
