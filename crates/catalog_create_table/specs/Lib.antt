pub mod Placed
-- the crates below that this one speaks of, passed on
pub use Rattle.catalog_checks.specs as catalog_checks
pub use Rattle.catalog_checks.specs.catalog_rules as catalog_rules
