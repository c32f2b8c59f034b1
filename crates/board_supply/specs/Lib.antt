pub use Rattle.board_reserves.specs.Supplies
