-- the crates below that this one speaks of, passed on
pub use Rattle.name_const_length.specs.catalog_rules as catalog_rules
pub use Rattle.name_const_length.specs as name_const_length
pub use Rattle.name_const_length.specs.log_entries as log_entries
pub use Rattle.name_const_length.specs.sql_meaning as sql_meaning
