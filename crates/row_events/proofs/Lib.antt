pub mod GoingOn
pub mod Naming
pub mod Cutting
pub mod Nullable
pub mod Measuring
pub mod Summing
-- the crates below that this one speaks of, passed on
pub use Rattle.row_image.proofs.of_log_entries as of_log_entries
pub use Rattle.log_model.proofs as of_log_model
pub use Rattle.row_image.proofs as of_row_image
