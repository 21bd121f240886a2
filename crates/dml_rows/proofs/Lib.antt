pub mod Noting
-- the crate below that this one speaks of, passed on
pub use Rattle.row_store.proofs as of_row_store
