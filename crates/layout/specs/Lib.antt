pub mod Layout
pub mod Agree
pub mod Measured
pub mod Share
pub mod Answers
