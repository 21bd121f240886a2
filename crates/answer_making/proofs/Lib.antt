pub mod TextsTold
-- the crates below that this one speaks of, passed on
pub use Rattle.session_model.proofs.of_log_model as of_log_model
