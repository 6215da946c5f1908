pub mod Airing
pub mod Owners
pub mod Standing
pub mod Histories
pub mod Outputs
pub mod Serving
