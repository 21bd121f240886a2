pub mod Aimed
pub mod Changes
pub mod Inserts
pub mod Looping
pub mod Picked
pub mod Shown
pub mod Viewed
-- the crates below that this one speaks of, passed on
pub use Rattle.changed_rows.proofs as of_changed_rows
