pub mod Handing
pub use Rattle.clock_hands.specs.Freed
