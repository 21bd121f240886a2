pub mod Gathered
pub mod Named
pub mod Placed
pub mod Walked
-- the crates below that this one speaks of, passed on
pub use Rattle.sql_reach.proofs.of_sql_meaning as of_sql_meaning
