pub mod WalkedWords
pub mod ScanLaws
pub mod PlanLaws
