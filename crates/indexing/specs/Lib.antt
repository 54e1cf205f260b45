-- The definitions that the contracts cite.
pub mod Map
pub mod Ready
pub mod Answers
