pub mod QuietLemmas
pub mod PlayLemmas
pub mod PremiseLemmas
pub mod OutLemmas
pub mod JourneyLemmas
pub mod BesideLemmas
pub mod UnaskedLemmas
pub mod UnfollowedLemmas
