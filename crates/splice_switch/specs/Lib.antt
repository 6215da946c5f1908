pub mod Standing
pub mod Takes
