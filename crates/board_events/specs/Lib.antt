pub mod Events
pub mod EventLaws
pub mod Printed
