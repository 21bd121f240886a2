pub mod Asking
-- the crates below that this one speaks of, passed on
pub use Rattle.checkpoint.specs as checkpoint
pub use Rattle.snapshot_bodies.specs as snapshot_bodies
pub use Rattle.snapshot_laws.specs as snapshot_laws
pub use Rattle.store_source.specs as store_source
pub use Rattle.store_replica.specs as store_replica
