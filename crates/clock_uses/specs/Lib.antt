pub mod Making
pub mod Idling
pub mod Using
