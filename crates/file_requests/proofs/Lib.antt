pub mod RecordLemmas
pub mod PlanLemmas
pub mod PhysicalLemmas
pub mod DeleteLemmas
pub mod OpenLemmas
pub mod ViewLemmas
