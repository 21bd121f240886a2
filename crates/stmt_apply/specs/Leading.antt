-- Where a group leads that was carried out.
use Rattle.std.specs.Prelude.{◌≡◌, ℕ, true, List, [], Some}
use Rattle.table_rules.specs.Stored.{all_applied}
use Rattle.sql_tree.specs.Statement.{Statement}
use Rattle.log_groups.specs.catalog_rules.Bases.{defined}
use Rattle.log_groups.specs.log_model.Groups.{Form, start, next_log, ddl, txn}
use Rattle.apply_laws.specs.sql_reach.Reach.{is_definition}
use Rattle.apply_laws.specs.text_answers.Answers.{a_statement, text_answer}
use Rattle.row_apply.specs.prog_work.Contents.{Contents, base_of}
use Rattle.row_apply.specs.Ends.{Stays}

-- a transaction's changes stand open: they lead from the tables before it to those that stand, and all can be given up
pub record Opens (before after : Contents) : Type 0 where
  pub leads : all_applied after.changes before.tables ≡ Some after.tables
  pub stays : Stays before after

-- a statement is a definition, which makes the base that stands behind it, and no change stands open
pub record Makes (s : Statement) (before after : Contents) : Type 0 where
  pub definition : is_definition s ≡ true
  pub made : defined s (base_of before) ≡ Some (base_of after)
  pub changes : after.changes ≡ []

-- a text is such a statement
pub record MakesBy (text : List ℕ) (before after : Contents) : Type 0 where
  pub statement : Statement
  pub read : text_answer text ≡ a_statement statement
  pub makes : Makes statement before after

-- a group, by its form: the beginning and the end of a log change nothing
abbrev pub LeadsBy : Form → (before after : Contents) → Type 0
LeadsBy start before after = after ≡ before
LeadsBy (next_log next) before after = after ≡ before
LeadsBy (ddl s) before after = MakesBy s.query.text before after
LeadsBy (txn opening items number) before after = Opens before after
