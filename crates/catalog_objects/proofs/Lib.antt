pub mod Found
pub mod Kept
pub mod Orders
pub mod Parts
pub mod Rising
-- the crates below that this one speaks of, passed on
pub use Rattle.catalog_rules.proofs as of_catalog_rules
