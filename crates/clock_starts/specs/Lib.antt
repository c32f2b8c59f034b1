pub mod Starts
pub mod FirstLaws
