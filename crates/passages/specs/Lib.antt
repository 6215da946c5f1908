pub mod AirRuns
pub mod Names
pub mod Runs
pub mod StopLaws
pub mod Stopping
pub mod Stops
pub mod Watching
