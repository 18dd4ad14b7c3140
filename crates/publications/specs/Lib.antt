pub mod Publications
pub mod Reading
pub mod Layout
pub mod Chunks
