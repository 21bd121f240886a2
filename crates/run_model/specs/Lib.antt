pub mod Asked
pub mod Run
pub mod Following
pub mod States
pub mod Worked
-- the crates below that this one speaks of, passed on
pub use Rattle.replica_model.specs as replica_model
pub use Rattle.replica_model.specs.log_file_model as log_file_model
