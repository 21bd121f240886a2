pub mod Indexing
pub mod Wholes
