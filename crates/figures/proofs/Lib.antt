pub mod Second
pub mod Demands
pub mod NamedLaws
