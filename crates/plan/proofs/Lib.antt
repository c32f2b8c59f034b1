pub mod LookupLaws
pub mod RuleLaws
pub mod ValidLaws
pub mod Accepted
pub mod PlanLines
