pub mod Replica
pub mod Applying
pub mod Selecting
pub mod Replaying
pub mod Lines
pub mod Worked
-- the crates below that this one speaks of, passed on
pub use Rattle.apply_model.specs as apply_model
pub use Rattle.log_file_model.specs as log_file_model
