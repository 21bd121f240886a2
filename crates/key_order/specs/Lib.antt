pub mod Columns
pub mod Given
pub mod Keys
pub mod Counts
pub mod Extremes
-- the crates below that this one speaks of, passed on
pub use Rattle.where_candidates.specs as where_candidates
