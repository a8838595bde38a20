pub mod Rolls
pub mod Windows
pub mod WindowLaws
pub mod CutLaws
pub mod Parts
