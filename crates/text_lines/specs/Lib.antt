pub mod Said
pub mod Code
pub mod SaidLaws
