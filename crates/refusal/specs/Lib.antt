pub mod Number
pub mod Judge
