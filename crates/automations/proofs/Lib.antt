mod ClientsLemmas
mod MemoryLemmas
mod PlaceLemmas
mod ReadingLemmas
mod RefusalLemmas
mod ReplyLemmas
mod ScriptLemmas
mod StopLemmas
mod TextLemmas
pub mod AnswerLemmas
