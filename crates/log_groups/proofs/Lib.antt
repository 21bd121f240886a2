pub mod Walking
pub mod Looks
-- the crates below that this one speaks of, passed on
pub use Rattle.row_image.proofs.of_log_model as of_log_model
pub use Rattle.log_group_laws.proofs as of_log_group_laws
