pub mod Naming
pub mod Rising
pub mod Visiting
pub mod Walking
-- the crates below that this one speaks of, passed on
pub use Rattle.sql_reach.specs.catalog_rules as catalog_rules
pub use Rattle.sql_reach.specs.sql_meaning as sql_meaning
pub use Rattle.sql_reach.specs as sql_reach
