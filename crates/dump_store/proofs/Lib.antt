pub mod Gathered
pub mod Ending
