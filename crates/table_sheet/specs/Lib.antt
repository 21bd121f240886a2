pub mod Costs
pub mod Counts
pub mod Indexed
pub mod Keyed
pub mod Numbered
pub mod Pages
pub mod Parts
pub mod Ranges
pub mod Ranked
pub mod Refusals
pub mod Settling
pub mod Standing
pub mod Walks
-- the crates below that this one speaks of, passed on
pub use Rattle.row_index.specs.block_list as block_list
pub use Rattle.row_index.specs.row_sheets as row_sheets
pub use Rattle.value_ranges.specs as value_ranges
