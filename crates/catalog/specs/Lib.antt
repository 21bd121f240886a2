pub mod Answers
-- the crates below that this one speaks of, passed on
pub use Rattle.catalog_show_create.specs.catalog_objects as catalog_objects
