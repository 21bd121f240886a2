pub mod Room
pub mod Dropping
pub mod Making
