pub mod NumberLemmas
pub mod GoOnLemmas
