pub mod CuttingLemmas
pub mod PlanningLemmas
pub mod StatusLemmas
