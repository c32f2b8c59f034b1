pub mod Nexts
pub mod LeastLaws
pub mod WriteLaws
pub mod ScanLaws
pub mod Gather
