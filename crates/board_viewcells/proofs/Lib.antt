pub mod ViewLaws
pub mod FillLaws
