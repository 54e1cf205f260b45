-- The laws that the proofs cite.
pub mod Formed
pub mod Whole
pub mod Last
pub mod Moved
pub mod Leaves
pub mod Nodes
pub mod Walked
