pub mod Carrying
pub mod Closing
pub mod Defining
pub mod Reach
pub mod Reasons
pub mod Worked
-- the crates below that this one speaks of, passed on
pub use Rattle.sql_meaning.specs.catalog_rules as catalog_rules
pub use Rattle.sql_meaning.specs.log_entries as log_entries
pub use Rattle.sql_meaning.specs as sql_meaning
