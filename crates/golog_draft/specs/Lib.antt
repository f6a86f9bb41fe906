pub mod Drafts
pub mod DraftPlaces
pub mod DraftOrder
