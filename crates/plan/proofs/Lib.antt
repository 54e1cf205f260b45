pub mod Zeros
pub mod Order
pub mod Bounds
pub mod Optimal
pub mod Scan
pub mod Alike
pub mod Theorems
