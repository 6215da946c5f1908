pub mod Telling
pub mod Path
pub mod Laws
pub mod Packets
pub mod Thinning
