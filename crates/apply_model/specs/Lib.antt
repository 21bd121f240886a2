pub mod Stops
pub mod Rows
pub mod Texts
pub mod Groups
pub mod Worked
-- the crates below that this one speaks of, passed on
pub use Rattle.binlog_sizes.specs.log_model as log_model
pub use Rattle.binlog_sizes.specs.row_events as row_events
pub use Rattle.session_ctx.specs as session_ctx
pub use Rattle.session_ctx.specs.sql_meaning as sql_meaning
pub use Rattle.sql_reach.specs as sql_reach
pub use Rattle.text_answers.specs as text_answers
pub use Rattle.binlog_sizes.specs as binlog_sizes
