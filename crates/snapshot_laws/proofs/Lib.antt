pub mod Naming
pub mod Again
pub mod Places
