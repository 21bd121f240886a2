pub mod Writing
pub mod Pushed
pub mod Beginning
-- the crate below that this one speaks of, passed on
pub use Rattle.durable_runs.specs as durable_runs
