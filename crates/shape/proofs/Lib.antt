pub mod FirstRepeats
pub mod Repeats
pub mod Limits
pub mod Permutations
pub mod Marks
pub mod Theorems
