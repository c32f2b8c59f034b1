pub mod Counts
pub mod Lows
pub mod Sizes
