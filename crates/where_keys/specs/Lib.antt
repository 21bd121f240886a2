pub mod Sides
pub mod Keys
pub mod Laws
-- the crates below that this one speaks of, passed on
pub use Rattle.session_ctx.specs as session_ctx
pub use Rattle.session_ctx.specs.sql_meaning as sql_meaning
pub use Rattle.where_laws.specs as where_laws
