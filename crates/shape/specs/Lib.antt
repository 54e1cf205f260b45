pub mod Shape
pub mod Repeats
pub mod Dimensions
pub mod Answers
