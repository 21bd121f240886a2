pub mod Acting
pub mod Turning
pub mod Evaluated
pub mod Assigned
pub mod Declared
pub mod Performed
pub mod Stepping
pub mod Calling
pub mod NewRows
pub mod Nesting
-- the crates below that this one speaks of, passed on
pub use Rattle.sql_evaluation.proofs as of_sql_evaluation
