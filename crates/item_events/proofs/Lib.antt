pub mod Texting
pub mod Measuring
