pub mod Sheets
pub mod SheetLaws
pub mod TableLaws
