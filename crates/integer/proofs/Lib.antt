-- The laws that the proofs and other crates cite, the theorems and the samples.
pub mod Linear
pub mod Laws
pub mod Trunc
pub mod Division
pub mod Signs
pub mod Limits
pub mod Divisors
pub mod Rounds
pub mod Theorems
pub mod Samples
