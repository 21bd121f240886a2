pub mod Both
pub mod Stages
pub mod Reading
pub mod Closing
pub mod Putting
