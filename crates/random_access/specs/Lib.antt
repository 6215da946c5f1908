pub mod Marks
pub mod Points
pub mod Numbering
