pub mod Congruent
pub mod Greatest
pub mod Places
