-- Where a transaction and a definition lead.
use Rattle.std.proofs.Common.{◌≡◌, ℕ, List, [], Bool, true, false, Result, Ok, Err, sym, ap, ◌∙◌}
use Rattle.std.specs.Prelude.{if◌then◌else◌, nat_lt, length}
use Rattle.table_rules.specs.Stored.{all_applied}
use Rattle.sql_tree.specs.Statement.{Statement}
use Rattle.apply_laws.specs.sql_reach.Reach.{is_definition}
use Rattle.apply_laws.specs.text_answers.Answers.{TextAnswer, a_statement, a_syntax_error, too_deep, text_answer}
use Rattle.apply_model.specs.binlog_sizes.Sizes.{most_text}
use Rattle.apply_model.specs.Texts.{statement_by, statement_in}
use Rattle.row_apply.specs.prog_work.Contents.{Contents, IsTogether}
use Rattle.row_apply.specs.prog_work.Defining.{Makes as Defines}
use Rattle.row_apply.specs.prog_work.declared.meter.Outcome.{Outcome}
use Rattle.row_apply.specs.Ends.{Stays}
use Rattle.stmt_apply.specs.Leading.{Makes, MakesBy, Opens}
use Rattle.stmt_apply.proofs.Staying.{nothing_open}

-- changes lead from the tables where none was open before
pub opens : (old new : Contents) → old.changes ≡ [] → Stays old new → IsTogether new → Opens old new
opens old new none stays together = record {
  leads = ap (all_applied new.changes) (sym (stays.committed ∙ nothing_open old.changes old.tables none)) ∙ together.made;
  stays = stays;
}

-- a definition that was made
pub definition_makes : (s : Statement) (told : Outcome) (before after : Contents) → is_definition s ≡ true → before.changes ≡ [] → Defines s told before after → Makes s before after
definition_makes s told before after is none made = record {
  definition = is;
  made = made.base;
  changes = made.changes ∙ none;
}

-- a text that is read as a statement
abbrev answer_by : Bool → TextAnswer → Result Statement ℕ
answer_by long answer = if long then Err 1153 else statement_by answer

read_by : (long : Bool) (answer : TextAnswer) (s : Statement) → answer_by long answer ≡ Ok s → answer ≡ a_statement s
read_by true answer s is = absurd cc
read_by false (a_statement t) s is = let same : t ≡ s = cc in ap (λ (x : Statement). a_statement x) same
read_by false (a_syntax_error at) s is = absurd cc
read_by false too_deep s is = absurd cc

pub text_makes : (text : List ℕ) (s : Statement) (before after : Contents) → statement_in text ≡ Ok s → Makes s before after → MakesBy text before after
text_makes text s before after is makes = record {
  statement = s;
  read = read_by (nat_lt most_text (length text)) (text_answer text) s is;
  makes = makes;
}
