pub mod PartLaws
pub mod SetLaws
