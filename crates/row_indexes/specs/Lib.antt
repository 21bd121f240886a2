pub mod Indexes
pub mod IndexLaws
pub mod Wholes
