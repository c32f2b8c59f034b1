pub mod RanLaws
