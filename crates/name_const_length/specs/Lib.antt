pub mod Closed
pub mod Growing
pub mod Items
-- the crates below that this one speaks of, passed on
pub use Rattle.sql_reach.specs.catalog_rules as catalog_rules
pub use Rattle.sql_reach.specs.log_entries as log_entries
pub use Rattle.sql_reach.specs.sql_meaning as sql_meaning
pub use Rattle.sql_reach.specs as sql_reach
