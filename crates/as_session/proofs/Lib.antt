pub mod FrameLemmas
pub mod GatherLemmas
pub mod SplitLemmas
pub mod RunLemmas
pub mod FeedLemmas
pub mod CallLemmas
pub mod WidthLemmas
