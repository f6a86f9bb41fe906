pub mod Things
pub mod RunsBehind
pub mod HeadLines
pub mod Lines
