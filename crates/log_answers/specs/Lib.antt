pub mod Tells
pub mod Stays
pub mod LoopLaws
pub mod TellLaws
pub mod Small
pub mod Bound
