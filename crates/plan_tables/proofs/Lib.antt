pub mod LayoutLaws
pub mod GivenLaws
pub mod Sound
