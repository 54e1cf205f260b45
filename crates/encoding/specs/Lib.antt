-- The definitions that the contracts cite.
pub mod Postfix
pub mod Written
pub mod Encode
pub mod Trees
