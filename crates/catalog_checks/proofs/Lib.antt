pub mod Counting
pub mod Most
