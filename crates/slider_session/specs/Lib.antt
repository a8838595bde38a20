pub mod Output
pub mod Accepted
pub mod Devices
pub mod WorkLines
pub mod Costs
pub mod Calls
pub mod Serving
