pub mod Ordered
pub mod Pushed
pub mod RisingLaws
pub mod PushLaws
pub mod Digits
pub mod Bound
