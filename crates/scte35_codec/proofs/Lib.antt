pub mod DescriptorLemmas
pub mod SpellingLemmas
pub mod FieldLemmas
pub mod InsertLemmas
pub mod LoopLemmas
pub mod GrammarLemmas
pub mod WrittenLemmas
pub mod GivenLemmas
