pub mod Framing
pub mod Mending
pub mod Laws
pub mod Reading
