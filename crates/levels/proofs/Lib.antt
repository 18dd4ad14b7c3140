pub mod Fills
pub mod Reading
pub mod Writing
