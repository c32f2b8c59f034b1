pub mod OwnLaws
