pub mod Strides
pub mod TurnsOn
pub use Rattle.clock_spends.specs.Spends
pub use Rattle.clock_reaches.specs.Stretches
pub mod Lent
