pub mod PictureLemmas
pub mod EndingLemmas
