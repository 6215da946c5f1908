pub mod Runs
pub mod Stages
pub mod Stops
pub mod Devices
