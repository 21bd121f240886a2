pub mod Fitted
pub mod Places
pub mod Triggers
pub mod Updates
pub mod Numbering
pub mod Ways
pub mod Inserts
-- the crates below that this one speaks of, passed on
pub use Rattle.sql_evaluation.proofs.of_dml_rows as of_dml_rows
pub use Rattle.sql_evaluation.proofs as of_sql_evaluation
