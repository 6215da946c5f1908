pub mod Serving
pub mod Owners
pub mod Parts
pub mod Runs
pub mod Refused
pub mod Stages
pub mod Isolation
pub mod Laws
