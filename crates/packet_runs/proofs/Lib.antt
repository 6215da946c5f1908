pub mod StopLemmas
pub mod RunLemmas
