pub mod KeyCounts
pub mod MergedAll
pub mod HoldLaws
pub mod MergeLaws
pub mod LeafLaws
pub mod TradeLaws
pub mod GetLaws
