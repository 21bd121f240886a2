pub mod Setting
pub mod Standing
pub mod Committing
pub mod Elsewhere
pub mod Taking
pub mod Passed
-- the crate below that this one speaks of, passed on
pub use Rattle.store_model.proofs as of_store_model
