pub mod Ends
pub mod Standings
pub mod Recording
pub mod Starting
-- the crate below that this one speaks of, passed on
pub use Rattle.durable_runs.proofs as of_durable_runs
