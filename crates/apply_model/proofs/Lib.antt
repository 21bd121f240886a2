-- the crates below that this one speaks of, passed on
pub use Rattle.binlog_sizes.proofs.of_row_image as of_row_image
