pub mod Logs
pub mod Beginning
pub mod Ending
pub mod Carrying
-- the crate below that it speaks of, passed on
pub use Rattle.durable_runs.proofs as of_durable_runs
