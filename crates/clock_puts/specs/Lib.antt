pub mod Puts
pub mod PutLaws
