pub mod Extremes
