pub mod Parts
pub mod Shapes
pub mod Orders
pub mod Outputs
