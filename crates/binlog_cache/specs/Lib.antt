pub mod Sums
-- the crates below that this one speaks of, passed on
pub use Rattle.binlog_sizes.specs as binlog_sizes
