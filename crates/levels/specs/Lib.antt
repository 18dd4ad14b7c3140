pub mod Marks
pub mod Rows
pub mod Deciders
pub mod Laws
pub mod Keeping
pub mod Fields
pub mod Bodies
