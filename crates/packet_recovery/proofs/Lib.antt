pub mod FramingLemmas
pub mod MendingLemmas
pub mod SearchLemmas
pub mod SightLemmas
pub mod ReaderLemmas
