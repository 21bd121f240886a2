pub mod Working
pub mod Newest
