pub mod Laws
-- the crates below that this one speaks of, passed on
pub use Rattle.row_events.specs as row_events
