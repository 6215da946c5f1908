pub mod Fields
pub mod Names
pub mod Lines
pub mod Logs
pub mod Warned
