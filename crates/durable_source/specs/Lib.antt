pub mod Standing
pub mod Opening
-- the crate below that this one speaks of, passed on
pub use Rattle.store_checkpoints.specs.store_source as store_source
