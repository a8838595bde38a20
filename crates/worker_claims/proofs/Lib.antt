pub mod Hands
pub mod Lists
pub mod Shares
pub mod Steps
