pub mod Saying
pub mod Laws
-- the crate below that it speaks of, passed on
pub use Rattle.where_keys.specs as where_keys
