pub mod Refusing
-- the crates below that this one speaks of, passed on
pub use Rattle.name_const_checks.specs.catalog_objects as catalog_objects
pub use Rattle.name_const_names.specs.catalog_rules as catalog_rules
pub use Rattle.name_const_checks.specs as name_const_checks
pub use Rattle.name_const_names.specs.log_entries as log_entries
pub use Rattle.name_const_checks.specs.proc_model as proc_model
pub use Rattle.name_const_names.specs.sql_meaning as sql_meaning
pub use Rattle.sql_reach.specs as sql_reach
