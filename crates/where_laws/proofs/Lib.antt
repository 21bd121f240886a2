pub mod Leaving
pub mod Facts
pub mod Sides
pub mod Truths
pub mod Comparing
pub mod Known
pub mod Enough
pub mod Single
