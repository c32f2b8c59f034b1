pub mod Turned
pub mod Turning
pub mod Lent
