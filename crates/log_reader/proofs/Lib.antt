pub mod Inputs
pub mod Known
pub mod Looking
pub mod Fronts
-- the crates below that this one speaks of, passed on
pub use Rattle.log_groups.proofs.of_log_model as of_log_model
pub use Rattle.run_streams.proofs as of_run_streams
pub use Rattle.log_groups.proofs.of_log_group_laws as of_log_group_laws
