pub mod TimesOf
pub mod LockLaws
pub mod OrderLaws
pub mod CellLaws
pub mod TimesLaws
pub mod TaskRows
pub mod FillLaws
