pub mod At
pub mod Told
