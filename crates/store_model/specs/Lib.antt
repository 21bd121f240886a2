pub mod Reading
pub mod Bodies
pub mod Held
pub mod Snapshots
pub mod Stores
pub mod Entries
pub mod Laws
pub mod Worked
-- the crates below that this one speaks of, passed on
pub use Rattle.binlog_sizes.specs.log_entries as log_entries
pub use Rattle.binlog_sizes.specs.log_model as log_model
pub use Rattle.sql_reach.specs as sql_reach
