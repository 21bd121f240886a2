pub mod Gates
pub mod Generations
pub mod Keeping
