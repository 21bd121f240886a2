pub mod Formats
pub mod Sessions
pub mod Answers
pub mod Running
pub mod Counting
pub mod Commands
pub mod Calling
pub mod Machine
pub mod Holding
pub mod Openings
pub mod Worked
-- the crates below that this one speaks of, passed on
pub use Rattle.session_ctx.specs.catalog_rules as catalog_rules
pub use Rattle.binlog_sizes.specs.log_entries as log_entries
pub use Rattle.binlog_sizes.specs.log_model as log_model
pub use Rattle.proc_model.specs as proc_model
pub use Rattle.session_ctx.specs.sql_meaning as sql_meaning
pub use Rattle.proc_model.specs.sql_reach as sql_reach
pub use Rattle.text_answers.specs as text_answers
pub use Rattle.binlog_sizes.specs as binlog_sizes
