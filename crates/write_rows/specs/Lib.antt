pub mod Rows
pub mod RowTexts
