pub mod Windows
pub mod OlderRule
pub mod Slides
pub mod Buckets
pub mod Splices
pub mod Views
pub mod Since
