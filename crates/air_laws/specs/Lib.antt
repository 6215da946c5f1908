pub mod Counters
pub mod Airs
pub mod Outputs
pub mod Headline
