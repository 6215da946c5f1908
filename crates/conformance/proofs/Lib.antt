pub mod FrameLemmas
pub mod RunLemmas
pub mod SectionLemmas
pub mod WordLemmas
pub mod WritingLemmas
