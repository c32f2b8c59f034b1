pub mod Feed
pub mod Tests
pub mod FeedLaws
pub mod RowLaws
pub mod TestLaws
pub mod ItemLaws
pub mod TaskLaws
pub mod BareLaws
