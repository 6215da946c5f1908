pub mod TimeLemmas
pub mod ListLemmas
pub mod EventLemmas
pub mod TableLemmas
pub mod AdvanceLemmas
