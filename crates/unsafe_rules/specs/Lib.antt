pub mod Places
pub mod Reaching
pub mod Unsafe
-- the crates below that this one speaks of, passed on
pub use Rattle.session_ctx.specs.catalog_rules as catalog_rules
pub use Rattle.session_ctx.specs.sql_meaning as sql_meaning
pub use Rattle.sql_reach.specs as sql_reach
