pub mod Asked
pub mod Short
