pub mod Clock
pub mod Trace
pub use Rattle.board_rules.specs.Facts
