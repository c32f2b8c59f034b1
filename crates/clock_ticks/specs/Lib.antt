pub mod Ticks
pub mod TickLaws
pub mod ListLaws
