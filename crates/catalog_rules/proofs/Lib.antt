pub mod Ranking
pub mod Refusing
