pub mod Table
pub mod Makes
pub mod Answers
