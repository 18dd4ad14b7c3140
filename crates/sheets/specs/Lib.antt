pub mod Sides
pub mod Sheets
pub mod Reading
pub mod Stages
pub mod Layout
