pub mod Columns
pub mod Walking
pub mod Packing
pub mod Mapping
-- the crates below that this one speaks of, passed on
pub use Rattle.log_model.proofs.of_log_entries as of_log_entries
pub use Rattle.log_model.proofs as of_log_model
