pub mod Chained
pub mod Placing
pub mod Summing
