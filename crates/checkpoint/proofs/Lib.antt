pub mod Keeping
pub mod Framing
