pub mod PlanTexts
pub mod PlanLeads
pub mod Keeping
pub mod Recording
pub mod Next
pub mod Turns
