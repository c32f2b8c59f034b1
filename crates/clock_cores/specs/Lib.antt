pub mod AllTurns
pub use Rattle.clock_turns.specs.Turned
