pub mod FormerLaws
pub mod Moves
