pub mod Cutting
pub mod Laws
pub mod Standing
pub mod FirstFault
pub mod Runs
