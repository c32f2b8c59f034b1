pub mod Former
pub mod NoLater
pub mod Cases
pub mod Moves
