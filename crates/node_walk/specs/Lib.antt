pub mod Asking
pub mod Walking
-- the crates below that this one speaks of, passed on
pub use Rattle.catalog_objects.specs as catalog_objects
