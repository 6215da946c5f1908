pub mod LineLemmas
pub mod ReadLemmas
pub mod StampLemmas
pub mod UndecidedLemmas
pub mod WriteLemmas
pub mod IntLemmas
