-- the crates below that this one speaks of, passed on
pub use Rattle.sql_meaning.proofs.of_catalog_rules as of_catalog_rules
