pub mod Command
pub mod Options
pub mod Services
pub mod Plans
pub mod Inspecting
pub mod Requests
pub mod Faults
pub mod Naming
