pub mod TextLemmas
pub mod LawLemmas
pub mod CutLemmas
