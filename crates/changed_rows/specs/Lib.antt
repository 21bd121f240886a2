pub mod Changed
pub mod Firing
pub mod Inserted
-- the crates below that this one speaks of, passed on
pub use Rattle.sql_evaluation.specs.catalog_objects as catalog_objects
pub use Rattle.sql_evaluation.specs.catalog_rules as catalog_rules
pub use Rattle.sql_evaluation.specs.session_ctx as session_ctx
pub use Rattle.sql_evaluation.specs as sql_evaluation
pub use Rattle.sql_evaluation.specs.sql_meaning as sql_meaning
