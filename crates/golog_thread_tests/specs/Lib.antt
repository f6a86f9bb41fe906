pub mod EmptyScripts
pub mod Looking
