pub mod Shapes
pub mod Levels
pub mod Folding
