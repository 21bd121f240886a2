pub mod Back
pub mod Made
-- the crates below that this one speaks of, passed on
pub use Rattle.catalog_objects.proofs as of_catalog_objects
