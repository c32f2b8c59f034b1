pub mod Same
pub mod Turns
pub mod Picks
pub mod Beside
