pub mod Into
pub mod IntoLaws
pub mod Lines
pub mod LineLaws
pub mod SizeLaws
