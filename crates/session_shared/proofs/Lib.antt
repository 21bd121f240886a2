pub mod Logging
pub mod Unsafe
pub mod Bases
pub mod Places
pub mod Fitting
-- the crate below, passed on
pub use Rattle.waiting_entries.proofs as of_waiting_entries
