pub mod Kept
-- the crates below that this one speaks of, passed on
pub use Rattle.catalog_show_create.specs as catalog_show_create
pub use Rattle.store_bodies.specs as store_bodies
