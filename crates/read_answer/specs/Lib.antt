pub mod Into
pub mod Judged
pub mod JudgedLaws
pub mod LoopLaws
pub mod Ample
pub mod RoomLaws
pub mod Claims
