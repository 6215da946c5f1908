pub mod Messages
pub mod Services
pub mod Faults
pub mod Takes
pub mod Laws
