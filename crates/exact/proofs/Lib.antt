pub mod Walks
pub mod Inserting
pub mod Faults
pub mod Packings
