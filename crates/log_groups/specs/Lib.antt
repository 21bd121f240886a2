pub mod Views
pub mod Growing
-- the crates below that this one speaks of, passed on
pub use Rattle.log_group_laws.specs.catalog_rules as catalog_rules
pub use Rattle.log_group_laws.specs.log_entries as log_entries
pub use Rattle.row_image.specs.log_model as log_model
pub use Rattle.log_group_laws.specs as log_group_laws
