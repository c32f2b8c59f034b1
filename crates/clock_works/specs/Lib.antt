pub mod Worked
pub use Rattle.clock_frees.specs.Handing
