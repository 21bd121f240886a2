-- the crates below that this one speaks of, passed on
pub use Rattle.name_const_length.proofs.of_sql_meaning as of_sql_meaning
