pub mod Packing
pub mod Walking
pub mod Copying
pub mod Tables
pub mod Cuts
pub mod Rules
pub mod Theorems
