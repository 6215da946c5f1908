pub mod Moving
pub mod Laws
pub mod Whole
pub mod Standing
pub mod Slices
pub mod Clocks
pub mod Sections
