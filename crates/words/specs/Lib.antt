-- The definitions that the contracts cite.
pub mod Words
pub mod Saturated
pub mod Merged
pub mod Promises
