pub mod Refusing
-- the crates below that this one speaks of, passed on
pub use Rattle.node_walk.specs.catalog_objects as catalog_objects
pub use Rattle.proc_model.specs as proc_model
