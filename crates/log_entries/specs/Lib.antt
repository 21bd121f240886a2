pub mod Entries
pub mod Variables
-- the crates below that this one speaks of, passed on
pub use Rattle.catalog_rules.specs as catalog_rules
