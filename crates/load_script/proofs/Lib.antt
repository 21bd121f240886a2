pub mod Joins
pub mod Splits
pub mod Texts
pub mod Turns
