-- The laws that the proofs cite.
pub mod Judged
pub mod Changed
pub mod Concatenated
