-- The definitions that the contracts cite.
pub mod Outcome
pub mod Rules
pub mod Rewriting
