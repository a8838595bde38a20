pub mod Outcomes
pub mod Totals
pub mod Pins
pub mod Rows
pub mod Finishes
pub mod Backing
pub mod Keeping
pub mod LaneSteps
