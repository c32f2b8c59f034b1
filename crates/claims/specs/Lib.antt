pub mod Worked
pub mod Reported
pub mod Boards
pub mod Written
pub mod Once
pub mod Pinned
