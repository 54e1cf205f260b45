-- The definitions that the contracts cite.
pub mod FoldMap
pub mod Ready
