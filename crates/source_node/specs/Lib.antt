pub mod Standing
pub mod Other
-- the crates below that this one speaks of, passed on
pub use Rattle.session_transaction.specs.prog_work as prog_work
pub use Rattle.session_transaction.specs.session_shared as session_shared
