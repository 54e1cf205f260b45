pub mod Lists
pub mod Tests
pub mod Radix
pub mod Loops
pub mod Pigeonhole
