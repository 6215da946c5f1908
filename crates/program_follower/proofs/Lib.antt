pub mod OptionLemmas
pub mod StepLemmas
pub mod PatLemmas
pub mod JudgingLemmas
pub mod MapsLemmas
pub mod StreamLemmas
pub mod PlaceLemmas
pub mod FollowLemmas
pub mod ElsewhereLemmas
mod UseLemmas
pub mod PieceLemmas
pub mod PidLemmas
pub mod UnfollowedLemmas
pub mod StillLemmas
pub mod GoOnLemmas
mod FaultlessMapLemmas
