pub mod Paced
pub mod SectionLaws
pub mod PacedLaws
