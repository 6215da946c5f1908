pub mod Ends
pub mod Flushes
pub mod Reads
