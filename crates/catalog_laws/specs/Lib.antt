pub mod Making
-- the crates below that this one speaks of, passed on
pub use Rattle.catalog_show_create.specs.catalog_rules as catalog_rules
pub use Rattle.catalog_show_create.specs as catalog_show_create
pub use Rattle.text_answers.specs as text_answers
