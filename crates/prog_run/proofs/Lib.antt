pub mod Around
pub mod Aside
pub mod Digits
pub mod Effects
pub mod LastId
pub mod Moments
pub mod UnderWay
pub mod Undone
-- the crates below that this one speaks of, passed on
pub use Rattle.stored_programs.proofs.of_sql_evaluation as of_sql_evaluation
