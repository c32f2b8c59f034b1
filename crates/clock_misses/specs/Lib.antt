pub mod Rising
pub mod DueLaws
