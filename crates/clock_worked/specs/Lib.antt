pub mod Worked
pub mod Watched
pub mod Ceiling
