pub mod Tests
pub mod Hosts
pub mod TestLaws
pub mod GuestLaws
