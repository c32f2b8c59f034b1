pub mod Read
pub mod ReadLaws
pub mod Lent
