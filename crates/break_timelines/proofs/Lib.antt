pub mod RiseLemmas
pub mod PictureLemmas
pub mod CleanLemmas
pub mod UnitLemmas
