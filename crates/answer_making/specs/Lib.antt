pub mod ReadTexts
pub mod Telling
-- the crates below that this one speaks of, passed on
pub use Rattle.prog_work.specs.catalog_objects as catalog_objects
pub use Rattle.session_model.specs.catalog_rules as catalog_rules
pub use Rattle.session_model.specs.log_entries as log_entries
pub use Rattle.session_model.specs.log_model as log_model
pub use Rattle.session_model.specs.proc_model as proc_model
pub use Rattle.prog_work.specs as prog_work
pub use Rattle.session_model.specs as session_model
pub use Rattle.session_model.specs.sql_meaning as sql_meaning
pub use Rattle.session_model.specs.sql_reach as sql_reach
pub use Rattle.session_model.specs.text_answers as text_answers
