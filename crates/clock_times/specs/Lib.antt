pub mod Times
pub use Rattle.clock_rules.specs.Clock
pub use Rattle.board_keeps.specs.Fair
