pub mod Kept
pub mod Steps
pub mod Records
-- the crates below that this one speaks of, passed on
pub use Rattle.commit_store.specs as commit_store
pub use Rattle.relay_log.specs as relay_log
pub use Rattle.relay_log.specs.apply_model as apply_model
pub use Rattle.replica_model.specs as replica_model
