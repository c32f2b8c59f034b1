pub mod Coded
pub mod Same
pub mod TableLaws
pub mod SameLaws
pub mod KindLaws
