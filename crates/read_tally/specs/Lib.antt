pub mod Tally
pub mod ItemLaws
pub mod TallyLaws
