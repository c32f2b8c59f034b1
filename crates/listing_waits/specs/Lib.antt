pub mod Filled
pub mod FilledLaws
