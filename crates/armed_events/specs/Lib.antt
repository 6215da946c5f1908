pub mod Asking
pub mod Arming
pub mod Obeying
pub mod Valuing
