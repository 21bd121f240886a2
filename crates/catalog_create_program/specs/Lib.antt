pub mod BodyRanks
pub mod Kinds
pub mod Refusing
pub mod Scopes
-- the crates below that this one speaks of, passed on
pub use Rattle.catalog_create_table.specs.catalog_checks as catalog_checks
