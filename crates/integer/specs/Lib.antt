-- The definitions that the contracts cite.
pub mod Floor
pub mod Exact
pub mod Gcd
