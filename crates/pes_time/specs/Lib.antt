pub mod Line
pub mod Stamps
