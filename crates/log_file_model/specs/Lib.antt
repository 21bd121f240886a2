pub mod Walk
pub mod Passing
pub mod Printed
pub mod Worked
-- the crates below that this one speaks of, passed on
pub use Rattle.log_group_laws.specs.catalog_rules as catalog_rules
pub use Rattle.log_group_laws.specs.log_entries as log_entries
pub use Rattle.log_print.specs as log_print
