pub mod Calls
pub mod Turned
pub mod Keeping
pub mod Ran
pub mod Evaluating
-- the crates below that this one speaks of, passed on
pub use Rattle.session_shared.specs.log_entry_laws as log_entry_laws
pub use Rattle.session_shared.specs.binlog_items as binlog_items
pub use Rattle.proc_parts.specs as proc_parts
pub use Rattle.session_shared.specs as session_shared
