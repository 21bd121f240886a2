pub mod Added
pub mod Recording
pub mod Leaving
