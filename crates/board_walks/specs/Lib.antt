pub mod Walks
pub mod WalkLaws
