pub mod Boarded
pub mod Whole
