pub mod Changed
pub mod Did
pub mod Served
-- the crates below that this one speaks of, passed on
pub use Rattle.changed_rows.specs.catalog_objects as catalog_objects
pub use Rattle.changed_rows.specs.catalog_rules as catalog_rules
pub use Rattle.changed_rows.specs as changed_rows
pub use Rattle.changed_rows.specs.session_ctx as session_ctx
pub use Rattle.changed_rows.specs.sql_meaning as sql_meaning
