pub mod Adding
pub mod Comparing
pub mod Placing
pub mod Filling
pub mod Copying
pub mod Linking
pub mod Answering
pub mod Theorems
