pub mod LineLemmas
pub mod LoadingLemmas
