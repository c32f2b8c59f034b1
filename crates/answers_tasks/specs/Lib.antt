pub mod Asked
pub mod Found
