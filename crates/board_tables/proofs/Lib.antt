pub mod EnteredLaws
