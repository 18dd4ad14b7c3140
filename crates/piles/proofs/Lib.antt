pub mod Listed
pub mod Even
pub mod Salts
