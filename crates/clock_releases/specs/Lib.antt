pub mod Opens
pub mod ReleaseLaws
pub mod OpenLaws
