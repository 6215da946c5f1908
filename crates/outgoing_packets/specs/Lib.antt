pub mod Numbers
pub mod Entries
pub mod Faults
