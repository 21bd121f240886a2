pub mod Seen
-- the crates below that this one speaks of, passed on
pub use Rattle.catalog_objects.specs as catalog_objects
pub use Rattle.catalog_objects.specs.catalog_rules as catalog_rules
pub use Rattle.exec_state.specs as exec_state
pub use Rattle.key_order.specs.where_candidates.session_ctx as session_ctx
pub use Rattle.key_order.specs.where_candidates as where_candidates
pub use Rattle.key_order.specs.where_candidates.session_ctx.sql_meaning as sql_meaning
