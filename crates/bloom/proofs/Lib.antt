pub mod Steps
pub mod Sets
