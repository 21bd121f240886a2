pub mod Added
pub mod Waiting
pub mod Making
-- the crates below that this one speaks of, passed on
pub use Rattle.binlog_items.specs as binlog_items
pub use Rattle.commit_store.specs.store_model as store_model
