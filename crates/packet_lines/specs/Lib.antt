pub mod CutLines
pub mod Laws
pub mod Lines
pub mod Texts
