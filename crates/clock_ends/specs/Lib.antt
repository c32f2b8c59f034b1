pub mod Ends
pub mod RunLaws
pub mod EndLaws
