pub mod SizedLaws
pub mod CoreLaws
