pub mod WellFormed
pub mod Plans
pub mod Usages
pub mod Options
