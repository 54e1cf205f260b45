-- The definitions that the contracts cite.
pub mod Raw
pub mod Draft
