-- the crates below that this one speaks of, passed on
pub use Rattle.row_events.proofs.of_log_entries as of_log_entries
pub use Rattle.row_events.proofs.of_log_model as of_log_model
pub use Rattle.row_events.proofs as of_row_events
pub use Rattle.row_events.proofs.of_row_image as of_row_image
