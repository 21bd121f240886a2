pub mod Read
pub mod Reports
pub mod Stops
pub mod Wrote
