pub mod Sheet
pub mod SheetLaws
pub mod CutLaws
pub mod SaveLaws
pub mod Blank
