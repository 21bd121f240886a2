pub mod Ranges
pub mod Keys
pub mod Worked
