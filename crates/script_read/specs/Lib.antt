pub mod Bytes
pub mod Commands
pub mod Script
pub mod Split
pub mod Worked
