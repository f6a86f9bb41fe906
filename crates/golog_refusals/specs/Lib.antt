pub mod Says
pub mod SaysAgent
pub mod RefusalLaws
