pub mod Pending
pub mod Feeding
pub mod Session
pub mod Messages
pub mod Runs
pub mod Laws
