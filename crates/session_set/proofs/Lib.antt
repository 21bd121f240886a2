pub mod SetParts
pub mod Ending
pub mod Zipping
