pub mod Calls
pub mod Parts
-- the crates below that this one speaks of, passed on
pub use Rattle.name_const.specs.catalog_objects as catalog_objects
pub use Rattle.name_const.specs.catalog_rules as catalog_rules
pub use Rattle.name_const.specs.log_entries as log_entries
pub use Rattle.name_const.specs.proc_model as proc_model
pub use Rattle.prog_run.specs as prog_run
pub use Rattle.prog_run.specs.prog_work as prog_work
pub use Rattle.prog_run.specs.session_ctx as session_ctx
pub use Rattle.prog_run.specs.sql_evaluation as sql_evaluation
pub use Rattle.name_const.specs.sql_meaning as sql_meaning
pub use Rattle.name_const.specs.sql_reach as sql_reach
pub use Rattle.exec_state.specs as exec_state
