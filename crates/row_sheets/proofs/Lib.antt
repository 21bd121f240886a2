pub mod Claims
pub mod Finding
pub mod Held
pub mod Orders
pub mod Over
pub mod Settling
pub mod Sheets
pub mod Writes
