pub mod Leaving
pub mod Facts
pub mod Sides
pub mod Known
pub mod Keys
pub mod Laws
pub mod Worked
