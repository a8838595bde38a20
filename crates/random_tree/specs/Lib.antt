pub mod Groups
pub mod Inputs
pub mod Payments
pub mod Levels
pub mod Steps
