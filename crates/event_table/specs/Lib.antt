pub mod Rings
pub mod Events
pub mod Standing
pub mod Counting
pub mod Tables
pub mod Laws
