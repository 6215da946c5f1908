pub mod Packing
pub mod Putting
pub mod Laws
