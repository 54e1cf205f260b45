-- The definitions that the contracts cite.
pub mod Points
pub mod Lists
pub mod Axes
pub mod Reshape
pub mod Selection
pub mod Operation
pub mod Numbers
pub mod Trimmed
