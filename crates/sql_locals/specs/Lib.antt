pub mod Locals
pub mod Types
