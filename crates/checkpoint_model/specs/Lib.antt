pub mod Pieces
pub mod Moments
pub mod Laws
pub mod Worked
