pub mod Filling
pub mod Objects
pub mod Begun
pub mod Opened
-- the crate below that this one speaks of, passed on
pub use Rattle.store_load.specs as store_load
