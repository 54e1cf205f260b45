pub mod Maps
pub mod Samples
