pub mod Marks
pub mod Keeping
pub mod Opened
pub mod Fetching
pub mod Restarting
pub mod Snapshotting
-- the crate below that this one speaks of, passed on
pub use Rattle.store_checkpoints.proofs.of_store_replica as of_store_replica
