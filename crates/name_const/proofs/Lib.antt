pub mod Listing
-- the crates below that this one speaks of, passed on
pub use Rattle.name_const_checks.proofs.of_proc_model as of_proc_model
pub use Rattle.name_const_names.proofs.of_sql_meaning as of_sql_meaning
