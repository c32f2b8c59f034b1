pub mod TableLaws
pub mod Begins
