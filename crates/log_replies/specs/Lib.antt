pub mod Parts
pub mod PartsLaws
pub mod Short
