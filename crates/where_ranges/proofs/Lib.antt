pub mod Named
-- the crate below that it speaks of, passed on
pub use Rattle.where_keys.proofs as of_where_keys
