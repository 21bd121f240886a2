-- the crates below that this one speaks of, passed on
pub use Rattle.answer_making.specs as answer_making
pub use Rattle.answer_making.specs.catalog_objects as catalog_objects
pub use Rattle.answer_making.specs.catalog_rules as catalog_rules
pub use Rattle.answer_making.specs.log_entries as log_entries
pub use Rattle.answer_making.specs.log_model as log_model
pub use Rattle.answer_making.specs.proc_model as proc_model
pub use Rattle.answer_making.specs.prog_work as prog_work
pub use Rattle.answer_making.specs.sql_meaning as sql_meaning
pub use Rattle.answer_making.specs.sql_reach as sql_reach
pub use Rattle.answer_making.specs.text_answers as text_answers
pub use Rattle.session_statement.specs as session_statement
pub use Rattle.session_statement.specs.log_entry_laws as log_entry_laws
pub use Rattle.session_statement.specs.binlog_items as binlog_items
pub use Rattle.session_statement.specs.proc_parts as proc_parts
pub use Rattle.session_statement.specs.session_shared as session_shared
