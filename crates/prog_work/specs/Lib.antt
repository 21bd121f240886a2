pub mod Asides
pub mod Carrying
pub mod Contents
pub mod Defining
pub mod Outcomes
pub mod Together
-- the crates below that this one speaks of, passed on
pub use Rattle.catalog.specs as catalog
pub use Rattle.catalog.specs.catalog_objects as catalog_objects
pub use Rattle.exec_state.specs.dml_rows as dml_rows
