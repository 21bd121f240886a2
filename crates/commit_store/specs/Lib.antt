pub mod Reserved
pub mod Next
pub mod Keeping
pub mod Laws
-- the crate below that this one speaks of, passed on
pub use Rattle.store_model.specs as store_model
