pub mod Enough
pub mod Uniques
-- the crate below that it speaks of, passed on
pub use Rattle.where_ranges.proofs.of_where_keys as of_where_keys
