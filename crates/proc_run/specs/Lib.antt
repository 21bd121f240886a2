pub mod Answers
pub mod Steps
-- the crates below that this one speaks of, passed on
pub use Rattle.proc_parts.specs.catalog_objects as catalog_objects
pub use Rattle.proc_parts.specs.catalog_rules as catalog_rules
pub use Rattle.proc_parts.specs.log_entries as log_entries
pub use Rattle.proc_parts.specs.proc_model as proc_model
pub use Rattle.proc_parts.specs as proc_parts
pub use Rattle.proc_parts.specs.session_ctx as session_ctx
pub use Rattle.proc_parts.specs.sql_meaning as sql_meaning
pub use Rattle.proc_parts.specs.sql_reach as sql_reach
