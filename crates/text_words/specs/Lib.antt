pub mod Keys
pub mod KeyLaws
pub mod KindLaws
