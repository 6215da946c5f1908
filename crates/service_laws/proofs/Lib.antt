pub mod MessageLemmas
pub mod TakeLemmas
pub mod PidLemmas
pub mod PassLemmas
pub mod PutLemmas
pub mod OwnLemmas
pub mod IsolationLemmas
