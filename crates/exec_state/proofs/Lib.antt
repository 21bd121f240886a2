pub mod Raised
pub mod Leading
pub mod Snapshots
pub mod Stored
-- the crates below that this one speaks of, passed on
pub use Rattle.dml_rows.proofs as of_dml_rows
