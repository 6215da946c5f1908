pub mod TimeLemmas
pub mod GrowLemmas
pub mod MeetLemmas
pub mod Proofs
