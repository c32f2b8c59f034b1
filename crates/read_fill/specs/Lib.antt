pub mod Fill
pub mod LoopLaws
pub mod RowLaws
pub mod SheetLaws
pub mod PlanLaws
