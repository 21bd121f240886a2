pub mod Fronts
pub mod Limits
pub mod Numbers
pub mod Seen
pub mod Splitting
