pub mod Told
pub mod ToldLaws
