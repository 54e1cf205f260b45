pub mod Judged
pub mod Theorems
