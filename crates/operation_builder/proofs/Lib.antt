-- The laws that the proofs and other crates cite.
pub mod AxisSteps
pub mod SelectionSteps
pub mod ReshapeSteps
pub mod Ready
