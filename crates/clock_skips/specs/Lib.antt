pub mod Skips
pub mod SkipLaws
