pub mod Picks
pub mod PickLaws
pub mod SameLaws
