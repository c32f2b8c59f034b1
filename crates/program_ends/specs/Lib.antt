pub mod Ends
pub mod EndLaws
