pub mod Closed
pub mod Deep
pub mod StaysWell
-- the crates below that this one speaks of, passed on
pub use Rattle.sql_meaning.proofs as of_sql_meaning
