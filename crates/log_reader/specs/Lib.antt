pub mod Reading
pub mod Filling
pub mod Taking
pub mod Behind
-- the crates below that this one speaks of, passed on
pub use Rattle.log_groups.specs.log_model as log_model
pub use Rattle.log_file_model.specs.log_print as log_print
pub use Rattle.run_streams.specs as run_streams
pub use Rattle.log_file_model.specs as log_file_model
