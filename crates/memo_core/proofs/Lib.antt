pub mod Lists
pub mod Apart
pub mod Invariant
pub mod HistoryLaws
pub mod SaidDigests
pub mod Walks
