pub mod Whose
pub mod Rows
pub mod Texts
pub mod Counters
pub mod Loading
