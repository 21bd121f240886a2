-- the crates below that this one speaks of, passed on
pub use Rattle.answer_making.proofs.of_log_model as of_log_model
pub use Rattle.session_statement.proofs as of_session_statement
pub use Rattle.session_statement.proofs.of_session_shared as of_session_shared
