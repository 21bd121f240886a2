pub mod Back
-- the crates below that this one speaks of, passed on
pub use Rattle.exec_state.specs.dml_rows as dml_rows
