pub mod Marked
pub mod CompleteLaws
pub mod LentLaws
