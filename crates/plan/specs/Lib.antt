pub mod Net
pub mod Value
pub mod Answer
