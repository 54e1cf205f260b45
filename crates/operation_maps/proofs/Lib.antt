-- The laws that other crates cite, the theorems and the samples.
pub mod Handed
pub mod AxesNamed
pub mod AxesMean
pub mod ReshapeNamed
pub mod SelectionNamed
pub mod Fitted
pub mod Meaning
pub mod Numbered
pub mod Unread
pub mod Limits
pub mod LimitsSelection
pub mod LimitsReshape
pub mod LimitsAxes
pub mod NeverRefused
pub mod Theorems
pub mod Samples
