pub mod Writable
-- the crates below that this one speaks of, passed on
pub use Rattle.row_events.proofs as of_row_events
