pub mod Added
pub mod Programs
