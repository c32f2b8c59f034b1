pub mod Holding
pub mod Freed
