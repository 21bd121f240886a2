pub mod Reaching
-- the crates below that this one speaks of, passed on
pub use Rattle.replica_model.specs.apply_model as apply_model
pub use Rattle.log_groups.specs as log_groups
pub use Rattle.log_groups.specs.log_model as log_model
