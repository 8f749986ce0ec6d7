pub mod PlanLemmas
pub mod PlanOrNone
pub mod PlanningLemmas
