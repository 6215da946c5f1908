pub mod Pictures
pub mod Cuts
pub mod Placing
pub mod Endings
