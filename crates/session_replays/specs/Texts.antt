-- What the text of an item says of its statement.
use Rattle.std.specs.Prelude.{◌≡◌, ◌≤◌, true, List, [], ◌∷◌, length, None}
use Rattle.name_const_laws.specs.catalog_rules.Checks.{session_scope, statement_refusal}
use Rattle.name_const_laws.specs.log_entries.declared.entries.Entry.{Entry}
use Rattle.name_const_laws.specs.log_entries.declared.entries.Entry.TheVariants.{Transaction, Definition, LogStart}
use Rattle.session_model.specs.binlog_sizes.Sizes.{most_text}
use Rattle.session_model.specs.text_answers.Answers.{a_statement, text_answer}
use Rattle.session_model.specs.proc_model.Procedures.{is_plain}
use Rattle.session_model.specs.Machine.{Whole}

-- The text of an item is read as its tree, and a command may have it; the tree is a change, a SELECT or a DO, which may stand in a log;
-- and no check of the catalog that it began with refuses it.
pub record SaysItself (i : Whole) : Type 0 where
  pub text : text_answer i.kept.text ≡ a_statement i.began.tree
  pub short : length i.kept.text ≤ most_text
  pub stands : is_plain i.began.tree ≡ true
  pub allowed : statement_refusal i.began.catalog session_scope i.began.tree ≡ None

abbrev pub AllSay : List Whole → Type 0
AllSay [] = Unit {0}
AllSay (i ∷ is) = SaysItself i × AllSay is

-- the items of transactions; other entries have none
abbrev pub EntriesSay : List (Entry Whole) → Type 0
EntriesSay [] = Unit {0}
EntriesSay (Transaction stamp server items ∷ es) = AllSay items × EntriesSay es
EntriesSay (Definition stamp server i ∷ es) = EntriesSay es
EntriesSay (LogStart stamp server ∷ es) = EntriesSay es
