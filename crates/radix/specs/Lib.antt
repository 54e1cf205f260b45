pub mod Radix
