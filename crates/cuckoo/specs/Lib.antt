pub mod Cells
pub mod Tried
pub mod Powers
pub mod Setting
pub mod Keeping
pub mod Cuckoo
pub mod Rules
pub mod Laws
