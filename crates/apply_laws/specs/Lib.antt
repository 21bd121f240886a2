pub mod Following
pub mod Laws
-- the crates below that this one speaks of, passed on
pub use Rattle.apply_model.specs as apply_model
pub use Rattle.statement_names.specs.catalog_rules as catalog_rules
pub use Rattle.log_entry_laws.specs as log_entry_laws
pub use Rattle.log_entry_laws.specs.log_entries as log_entries
pub use Rattle.log_entry_laws.specs.log_model as log_model
pub use Rattle.session_replays.specs.proc_model as proc_model
pub use Rattle.apply_model.specs.row_events as row_events
pub use Rattle.apply_model.specs.session_ctx as session_ctx
pub use Rattle.session_replays.specs.session_model as session_model
pub use Rattle.session_replays.specs as session_replays
pub use Rattle.statement_names.specs.sql_meaning as sql_meaning
pub use Rattle.statement_names.specs.sql_reach as sql_reach
pub use Rattle.apply_model.specs.text_answers as text_answers
pub use Rattle.apply_model.specs.binlog_sizes as binlog_sizes
