pub mod Going
pub mod Lines
pub mod Lent
