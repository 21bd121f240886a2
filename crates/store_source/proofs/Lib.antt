pub mod Rotations
pub mod StartBody
pub mod Logs
pub mod Images
pub mod Entries
pub mod Steps
pub mod Queues
pub mod Looping
pub mod Begun
pub mod Served
-- the crate below that this one speaks of, passed on
pub use Rattle.durable_runs.proofs as of_durable_runs
