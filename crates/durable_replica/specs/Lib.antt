pub mod Standing
pub mod Going
-- the crates below that this one speaks of, passed on
pub use Rattle.replica_node.specs as replica_node
pub use Rattle.store_checkpoints.specs.store_replica as store_replica
