pub mod Standing
pub mod Carried
pub mod Laws
-- the crates below that this one speaks of, passed on
pub use Rattle.durable_runs.specs as durable_runs
pub use Rattle.run_laws.specs as run_laws
