pub mod Statuses
pub mod ErrLines
pub mod Untouched
pub mod RunCounts
