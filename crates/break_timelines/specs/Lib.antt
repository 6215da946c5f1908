pub mod Line
pub mod Video
pub mod Cleaning
pub mod Timelines
pub mod Standing
pub mod Pictures
