pub mod Writing
pub mod Tables
pub mod Runs
pub mod Sizes
-- the crates below that this one speaks of, passed on
pub use Rattle.row_image.specs.log_entries as log_entries
pub use Rattle.log_model.specs as log_model
