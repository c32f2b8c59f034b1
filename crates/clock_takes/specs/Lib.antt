pub mod AskCases
pub mod Asked
pub mod KeepLaws
pub mod AskLaws
