pub mod Changing
pub mod Copied
pub mod Fronts
pub mod Listing
pub mod Members
pub mod Numbered
-- the crates below that this one speaks of, passed on
pub use Rattle.block_list.proofs as of_block_list
pub use Rattle.row_arena.proofs as of_row_arena
pub use Rattle.row_indexes.proofs as of_row_indexes
pub use Rattle.row_sheets.proofs as of_row_sheets
