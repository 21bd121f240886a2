pub mod Entries
pub mod Ids
pub mod Laws
-- the crates below that this one speaks of, passed on
pub use Rattle.log_model.specs.catalog_rules as catalog_rules
pub use Rattle.log_model.specs.log_entries as log_entries
pub use Rattle.log_model.specs as log_model
