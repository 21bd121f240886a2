pub mod Keys
pub mod Lookups
pub mod Rising
-- the crates below that this one speaks of, passed on
pub use Rattle.catalog_rules.specs as catalog_rules
