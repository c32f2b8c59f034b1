pub mod AtLaws
pub mod ToldLaws
