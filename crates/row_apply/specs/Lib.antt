pub mod Changes
pub mod Ends
pub mod Names
-- the crates below that this one speaks of, passed on
pub use Rattle.prog_work.specs.catalog_objects as catalog_objects
pub use Rattle.prog_work.specs as prog_work
