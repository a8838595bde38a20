pub mod TopLaws
pub mod LooseLaws
pub mod SettleLaws
pub mod AdvanceLaws
