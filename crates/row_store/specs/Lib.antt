pub mod Asides
pub mod Found
pub mod Refusals
pub mod Rows
pub mod Shelves
pub mod Stores
-- the crate below that this one speaks of, passed on
pub use Rattle.table_sheet.specs as table_sheet
