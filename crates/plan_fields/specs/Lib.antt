pub mod Own
pub mod PlacedLaws
pub mod Few
pub mod Before
pub mod BeforeLaws
pub mod OwnLaws
