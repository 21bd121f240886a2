pub mod Calendar
pub mod Digits
