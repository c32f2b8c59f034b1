pub mod Reports
pub mod FromBytes
pub mod Printed
