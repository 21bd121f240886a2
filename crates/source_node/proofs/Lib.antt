pub mod Making
pub mod Ending
pub mod Dispatch
pub mod Standings
-- the crate below, passed on
pub use Rattle.session_transaction.proofs.of_session_shared as of_session_shared
