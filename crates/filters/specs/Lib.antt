pub mod Kind
pub mod Answers
pub mod Judged
pub mod Fronts
pub mod Tables
pub mod TableRules
pub mod Memory
