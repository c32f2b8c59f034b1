pub mod Topping
pub mod TopLaws
pub mod WalkLaws
pub mod MadeLaws
