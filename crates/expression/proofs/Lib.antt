-- The laws that the proofs and other crates cite, the theorems and the samples.
pub mod Ring
pub mod Order
pub mod Tests
pub mod Reading
pub mod Machines
pub mod Decoded
pub mod Depth
pub mod Meaning
pub mod Ends
pub mod Stack
pub mod Pairs
pub mod Placed
pub mod Within
pub mod Theorems
pub mod Samples
