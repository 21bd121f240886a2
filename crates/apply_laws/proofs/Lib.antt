pub mod Catalogs
pub mod Columns
pub mod Changes
pub mod Steps
pub mod Items
pub mod Carrying
pub mod Needs
pub mod Texts
pub mod Transactions
pub mod Bases
pub mod Following
pub mod Entries
-- the crates below that this one speaks of, passed on
pub use Rattle.session_replays.proofs.of_proc_model as of_proc_model
pub use Rattle.statement_names.proofs.of_sql_meaning as of_sql_meaning
