pub mod Images
pub mod Events
pub mod Groups
pub mod Spelling
pub mod Written
pub mod Items
pub mod Log
pub mod Worked
-- the crates below that this one speaks of, passed on
pub use Rattle.log_entries.specs.catalog_rules as catalog_rules
pub use Rattle.log_entries.specs as log_entries
