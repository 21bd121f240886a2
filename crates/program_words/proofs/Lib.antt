pub mod Digits
pub mod Flags
pub mod Parses
pub mod Ranges
pub mod Walks
