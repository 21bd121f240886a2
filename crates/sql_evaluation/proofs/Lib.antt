pub mod Steps
pub mod Viewed
pub mod BuiltIns
pub mod Meanings
pub mod Loops
pub mod Branching
pub mod Scanning
pub mod Saving
pub mod Forming
-- the crates below that this one speaks of, passed on
pub use Rattle.exec_state.proofs.of_dml_rows as of_dml_rows
pub use Rattle.exec_state.proofs as of_exec_state
