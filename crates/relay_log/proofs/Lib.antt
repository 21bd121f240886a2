pub mod Leading
pub mod Keeping
-- the crates below that this one speaks of, passed on
pub use Rattle.log_groups.proofs.of_log_group_laws as of_log_group_laws
