pub mod Lists
pub mod Numbers
-- the crates below that this one speaks of, passed on
pub use Rattle.block_list.specs as block_list
pub use Rattle.row_arena.specs as row_arena
pub use Rattle.row_indexes.specs as row_indexes
pub use Rattle.row_sheets.specs as row_sheets
