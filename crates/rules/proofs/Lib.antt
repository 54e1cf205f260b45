-- The laws of the rules over words.
pub mod Search
pub mod Small
pub mod Placed
pub mod Terms
pub mod Nested
pub mod Numbers
pub mod Made
pub mod Outcomes
pub mod Standing
pub mod Settled
pub mod Rest
pub mod Formed
pub mod Whole
