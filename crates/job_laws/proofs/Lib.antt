pub mod CountLaws
pub mod FirstTab
pub mod Gains
mod PlacedLaws
pub mod RowLaws
