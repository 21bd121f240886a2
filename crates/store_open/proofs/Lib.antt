pub mod Rows
pub mod Same
pub mod Made
pub mod Onto
pub mod Decoding
pub mod Beginning
pub mod Standing
-- the crate below that this one speaks of, passed on
pub use Rattle.store_load.proofs as of_store_load
