pub mod After
pub mod Kept
pub mod Lies
