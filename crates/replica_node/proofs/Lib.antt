pub mod Carrying
pub mod Fronts
pub mod Going
pub mod Reading
pub mod Recording
pub mod Stepping
pub mod Written
