pub mod Limits
-- the crates below that this one speaks of, passed on
pub use Rattle.proc_model.proofs as of_proc_model
