pub mod Joining
pub mod Layouts
pub mod Places
pub mod Spots
