-- The laws that the proofs and other crates cite.
pub mod Drafted
pub mod Steps
pub mod Linear
