pub mod SlotsLaws
pub mod StoredLaws
pub mod PlanLaws
pub mod AllOnesLaws
pub mod StoringLaws
pub mod StoredCase
