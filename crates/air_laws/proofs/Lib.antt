pub mod CounterLemmas
pub mod SwitchLemmas
pub mod JourneyLemmas
pub mod FedLemmas
pub mod StretchLemmas
pub mod RestLemmas
pub mod RunningLemmas
pub mod HeadlineLemmas
