pub mod Seats
pub mod SeatLaws
pub use Rattle.plan.specs.Limits
