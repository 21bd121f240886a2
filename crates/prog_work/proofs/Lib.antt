pub mod Asides
pub mod Carried
pub mod Defined
pub mod Definitions
pub mod Holding
-- the crates below that this one speaks of, passed on
pub use Rattle.exec_state.proofs.of_dml_rows as of_dml_rows
