pub mod Desk
pub mod Logging
pub mod Saving
-- the crates below that this one speaks of, passed on
pub use Rattle.waiting_entries.specs.binlog_items.log_entry_laws as log_entry_laws
pub use Rattle.session_model.specs.log_model as log_model
pub use Rattle.waiting_entries.specs.binlog_items as binlog_items
pub use Rattle.waiting_entries.specs as waiting_entries
pub use Rattle.session_model.specs as session_model
