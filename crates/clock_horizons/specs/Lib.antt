pub mod Horizon
pub mod HorizonLaws
pub mod SameLaws
