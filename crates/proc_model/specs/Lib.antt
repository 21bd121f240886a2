pub mod Closing
pub mod Talk
pub mod Procedures
pub mod Worked
-- the crates below that this one speaks of, passed on
pub use Rattle.sql_reach.specs as sql_reach
