pub mod Views
pub mod Rule
pub mod Hands
pub mod Spare
