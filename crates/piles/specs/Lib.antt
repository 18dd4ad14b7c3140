pub mod Tries
pub mod Piles
