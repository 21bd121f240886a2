pub mod Agreeing
pub mod Laws
pub mod Members
-- the crates below that this one speaks of, passed on
pub use Rattle.sql_reach.specs as sql_reach
