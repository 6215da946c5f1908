pub mod Lists
pub mod Flags
pub mod Known
pub mod Moves
pub mod Tables
pub mod Runs
pub mod Reports
pub mod Traces
