pub mod Runs
-- the crates below that this one speaks of, passed on
pub use Rattle.prog_work.specs as prog_work
pub use Rattle.prog_work.specs.catalog as catalog
pub use Rattle.session_ctx.specs as session_ctx
pub use Rattle.stored_programs.specs.sql_evaluation as sql_evaluation
