pub mod Spends
pub mod Losing
pub mod Spending
pub mod Putting
pub mod AllSpending
pub use Rattle.clock_asks.specs.Asked
