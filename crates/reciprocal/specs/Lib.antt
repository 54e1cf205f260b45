pub mod Multiplier
pub mod Answers
