pub mod Stores
pub mod Retile
pub mod Steps
pub mod Rows
pub mod Retiling
pub mod Answers
