pub mod ProgLaws
pub mod Tidied
pub mod Theories
pub mod Examples
pub mod WrongExamples
pub mod TextLaws
pub mod Within
