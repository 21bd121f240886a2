pub mod Applying
pub mod Ending
pub mod Following
pub mod Leading
pub mod Needing
pub mod UnderWay
-- the crates below that this one speaks of, passed on
pub use Rattle.prog_run.specs as prog_run
pub use Rattle.row_apply.specs as row_apply
