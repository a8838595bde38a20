pub mod Views
pub mod Histories
pub mod Shards
pub mod Asks
pub mod Calls
pub mod Callers
pub mod Turns
