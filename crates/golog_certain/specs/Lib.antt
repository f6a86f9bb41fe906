pub mod FollowedRuns
pub mod WorldLaws
pub mod SearchLaws
pub mod CertainLaws
pub mod KnowledgeLaws
pub mod TransLaws
pub mod CompleteLaws
