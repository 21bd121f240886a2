pub mod Bodies
pub mod Steps
-- the crates below that this one speaks of, passed on
pub use Rattle.sql_statements.specs.changed_rows as changed_rows
pub use Rattle.sql_statements.specs.session_ctx as session_ctx
pub use Rattle.sql_evaluation.specs as sql_evaluation
pub use Rattle.sql_statements.specs as sql_statements
