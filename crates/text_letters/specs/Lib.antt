pub mod Wrote
pub mod WroteLaws
pub mod Tabbed
pub mod TabbedLaws
pub mod DigitLaws
pub mod SizeLaws
