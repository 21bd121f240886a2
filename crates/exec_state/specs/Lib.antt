pub mod Stage
pub mod UnderWay
-- the crates below that this one speaks of, passed on
pub use Rattle.dml_rows.specs as dml_rows
