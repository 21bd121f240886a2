pub mod Entering
pub mod Standings
pub mod Starting
pub mod Opened
pub mod Restarting
pub mod Snapshotting
-- the crate below that this one speaks of, passed on
pub use Rattle.store_checkpoints.proofs.of_store_source as of_store_source
