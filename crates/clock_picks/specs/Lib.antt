pub mod Scans
pub mod Tops
pub mod PickedV
pub mod PickedN
pub use Rattle.clock_dues.specs.Picking
