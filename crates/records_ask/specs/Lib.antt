pub mod Wanted
pub mod FaceLaws
