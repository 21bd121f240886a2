pub mod Turns
pub mod Bases
pub mod Settling
pub mod Keeps
pub mod Fitting
-- the crates below that this one speaks of, passed on
pub use Rattle.session_shared.proofs as of_session_shared
