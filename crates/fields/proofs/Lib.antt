pub mod Numbers
pub mod Steps
pub mod Readback
pub mod Stands
mod Seals
pub mod Sealed
