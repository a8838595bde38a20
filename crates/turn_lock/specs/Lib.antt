pub mod Views
pub mod Under
pub mod Rule
pub mod Passes
