pub mod Again
pub mod Rebuilding
pub mod Sizes
pub mod Standing
pub mod Leading
