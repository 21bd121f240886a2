pub mod Again
pub mod Staying
pub mod Tables
-- the crates below that this one speaks of, passed on
pub use Rattle.store_source.proofs as of_store_source
pub use Rattle.store_replica.proofs as of_store_replica
