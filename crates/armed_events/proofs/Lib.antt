pub mod TestLemmas
pub mod ChangeLemmas
pub mod PastLemmas
pub mod ValueLemmas
