pub mod Steps
pub mod Words
pub mod Numbers
pub mod Readback
pub mod Accepted
pub mod Layouts
pub mod Turns
pub mod Writing
