pub mod Stated
-- the crates below that this one speaks of, passed on
pub use Rattle.catalog_objects.specs as catalog_objects
pub use Rattle.catalog_objects.specs.catalog_rules as catalog_rules
