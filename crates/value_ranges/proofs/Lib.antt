pub mod Firsts
pub mod Meeting
pub mod Standing
