-- The definitions that the contracts cite.
pub mod Expression
pub mod Node
pub mod Machine
pub mod Decode
pub mod Value
pub mod Reckon
pub mod Ready
