pub mod Records
pub mod Journal
pub mod Worked
