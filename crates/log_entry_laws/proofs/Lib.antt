pub mod Parting
pub mod Cutting
pub mod EntryLaws
-- the crates below that this one speaks of, passed on
pub use Rattle.log_model.proofs as of_log_model
