pub mod Plains
pub mod Alike
pub mod PlainLaws
pub mod SpentLaws
pub mod PlainTurn
pub mod PlainMirrors
pub mod PlainTicks
