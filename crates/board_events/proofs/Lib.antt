pub mod LineMarks
pub mod PrintedLaws
