pub mod WordLemmas
pub mod ListLemmas
