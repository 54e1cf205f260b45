pub mod Accepted
pub mod Rules
pub mod Agree
pub mod Ratio
pub mod Theorems
