pub mod ViewOf
pub mod PartLaws
pub mod OwnerLaws
