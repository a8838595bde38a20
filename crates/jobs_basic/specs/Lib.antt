pub mod Count
pub mod Index
pub mod IndexLaws
pub mod Latest
pub mod Lines
pub mod Words
