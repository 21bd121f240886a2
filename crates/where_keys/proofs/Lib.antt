pub mod Known
pub mod Named
pub mod Uniques
-- the crate below that it speaks of, passed on
pub use Rattle.where_laws.proofs as of_where_laws
