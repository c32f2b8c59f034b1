pub mod Marks
pub mod Changes
pub use Rattle.clock_times.specs.Times
