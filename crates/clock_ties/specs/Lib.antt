pub mod Ceiled
pub mod Ties
pub mod Strict
