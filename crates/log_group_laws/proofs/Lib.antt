pub mod Lying
pub mod Staying
