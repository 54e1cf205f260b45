pub mod Dividing
pub mod Judged
pub mod Theorems
