pub mod Told
pub mod Bounds
