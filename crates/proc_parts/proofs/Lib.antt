pub mod Asked
pub mod Assigned
pub mod Behind
pub mod Called
pub mod Closed
pub mod Conditions
pub mod Declared
pub mod Evaluated
pub mod Locals
pub mod Plain
-- the crates below that this one speaks of, passed on
pub use Rattle.name_const.proofs.of_proc_model as of_proc_model
pub use Rattle.prog_run.proofs.of_sql_evaluation as of_sql_evaluation
pub use Rattle.name_const.proofs.of_sql_meaning as of_sql_meaning
