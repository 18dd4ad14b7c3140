pub mod Bits
pub mod Bloom
pub mod Setting
pub mod Rules
