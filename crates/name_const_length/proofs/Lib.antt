pub mod Aggregates
pub mod Growing
pub mod Structs
-- the crates below that this one speaks of, passed on
pub use Rattle.sql_reach.proofs.of_sql_meaning as of_sql_meaning
