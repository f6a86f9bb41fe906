mod AllTold
mod CasesKeep
mod Distinct
mod Folded
mod GoingOn
pub mod KeptPlans
pub mod KeptSearched
mod Leading
mod Least
mod Linking
mod Placed
mod PlanAnswers
mod PlanParts
mod PlannedSo
mod PlansFor
mod Somes
mod TablePlans
mod Taken
mod Told
