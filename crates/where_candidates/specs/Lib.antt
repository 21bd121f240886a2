pub mod Candidates
-- the crates below that this one speaks of, passed on
pub use Rattle.where_ranges.specs.where_keys as where_keys
pub use Rattle.where_ranges.specs.where_keys.session_ctx as session_ctx
