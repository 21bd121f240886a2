pub mod Draws
pub mod Memory
pub mod Streams
