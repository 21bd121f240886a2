pub mod Drawing
pub mod Reading
pub mod Writing
