pub mod Supplies
pub mod SupplyLaws
