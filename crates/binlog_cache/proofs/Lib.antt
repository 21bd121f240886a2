pub mod Summing
pub mod Parts
