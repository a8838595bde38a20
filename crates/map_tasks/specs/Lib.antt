pub mod Inputs
pub mod Leaves
pub mod Texts
pub mod Table
pub mod Lanes
