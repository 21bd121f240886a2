pub mod Changing
pub mod Frames
pub mod Fuel
pub mod Leading
pub mod Running
pub mod Scenes
pub mod Turns
pub mod Values
pub mod Within
pub mod Worked
-- the crates below that this one speaks of, passed on
pub use Rattle.log_entries.specs.catalog_rules as catalog_rules
pub use Rattle.log_entries.specs as log_entries
