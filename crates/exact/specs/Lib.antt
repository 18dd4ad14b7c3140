pub mod Rows
pub mod RowLaws
pub mod Adding
pub mod Exact
pub mod Rules
pub mod Packing
pub mod Memory
