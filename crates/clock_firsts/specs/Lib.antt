pub mod Firsts
pub mod StartLaws
pub mod NextLaws
