pub mod ClockLemmas
pub mod UnitLemmas
pub mod ReadingLemmas
pub mod PieceLemmas
pub mod RowLemmas
pub mod PackedLemmas
pub mod StartLemmas
