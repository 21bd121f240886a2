pub mod Functions
pub mod Identifiers
pub mod Moments
pub mod Operators
pub mod Random
pub mod Selecting
