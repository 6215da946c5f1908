pub mod DigitLemmas
pub mod ReadBackLemmas
