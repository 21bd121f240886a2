pub mod Items
pub mod Logged
-- the crates below that this one speaks of, passed on
pub use Rattle.log_entry_laws.specs as log_entry_laws
pub use Rattle.unsafe_rules.specs as unsafe_rules
pub use Rattle.binlog_cache.specs as binlog_cache
