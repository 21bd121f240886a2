mod Copying
pub mod Following
-- the crates below that this one speaks of, passed on
pub use Rattle.catalog_rules.proofs as of_catalog_rules
