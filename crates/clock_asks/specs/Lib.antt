pub mod Coming
pub mod Chosen
pub mod Rest
pub mod PickLaws
pub use Rattle.clock_takes.specs.Asked
