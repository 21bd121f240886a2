pub mod Changes
pub mod Leads
pub mod Stored
pub mod Stores
pub mod Tables
pub mod Worked
