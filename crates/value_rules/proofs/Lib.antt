pub mod Comparing
pub mod Extremes
pub mod Orders
pub mod Sorting
