pub mod TakenBack
-- the crates below that this one speaks of, passed on
pub use Rattle.exec_state.proofs.of_dml_rows as of_dml_rows
