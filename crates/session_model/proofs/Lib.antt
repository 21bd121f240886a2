pub mod Assigning
pub mod Holding
mod Leaving
mod Logging
pub mod Natural
pub mod Opening
pub mod Owning
mod Saving
mod Staying
pub mod Keeping
pub mod Calling
-- the crates below that this one speaks of, passed on
pub use Rattle.binlog_sizes.proofs.of_log_model as of_log_model
pub use Rattle.proc_model.proofs as of_proc_model
