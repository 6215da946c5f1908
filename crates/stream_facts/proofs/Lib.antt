pub mod FreeLemmas
pub mod JudgeLemmas
pub mod PidLemmas
pub mod StreamLemmas
