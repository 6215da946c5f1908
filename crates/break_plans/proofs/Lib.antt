pub mod DraftLemmas
pub mod OrderLemmas
pub mod PlanLemmas
