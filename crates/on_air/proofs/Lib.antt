pub mod TailLemmas
mod MarkLemmas
mod AirLemmas
mod OutputLemmas
pub mod LoopLemmas
pub mod InjectLemmas
pub mod ChainLemmas
