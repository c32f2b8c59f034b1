pub mod Waits
pub mod WaitLaws
pub mod Lent
