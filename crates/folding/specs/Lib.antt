-- The definitions that the contracts cite.
pub mod Sum
pub mod Fold
pub mod Folded
pub mod Working
pub mod Map
