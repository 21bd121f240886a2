pub mod Writing
pub mod Pushed
pub mod Opening
-- the crates below that this one speaks of, passed on
pub use Rattle.durable_runs.specs as durable_runs
pub use Rattle.store_open.specs as store_open
pub use Rattle.store_open.specs.store_load as store_load
