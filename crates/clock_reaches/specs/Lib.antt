pub mod Stretches
pub mod Reaches
pub mod Bounds
