pub mod Search
pub mod Row
pub mod TableLaws
