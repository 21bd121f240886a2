use Rattle.std.proofs.Common.{◌≡◌, ℕ, List, true, false, ap, ◌∙◌, rules}
use Rattle.val_types.specs.declared.value.Value.{Value}
use Rattle.val_types.specs.Keys.{primary_key}
use Rattle.table_rules.specs.Tables.{Table}
use Rattle.table_rules.specs.Stored.{row_at, table_named}
use Rattle.row_apply.specs.Changes.{is_row}
use Rattle.row_apply.specs.Ends.{progress_in}
use Rattle.row_apply.proofs.Making.{row_there, update_absent_stops}
use Rattle.row_apply.proofs.Refusing.{row_found}
use Rattle.row_apply.proofs.changing.replace_there.Goals as goal

pub returns-then-not-is_there-clause-ends : goal.returns-then-not-is_there-clause-ends
returns-then-not-is_there-clause-ends c = λ m takes.
    let absent : is_row (row_at c.args.table c.args.key c.args.work.now.tables) c.args.before.now ≡ false = search rules in
    rw c.differs.ensures
    (update_absent_stops c.args.pos m c.args.table c.args.before.now c.args.after c.args.key (progress_in c.args.work.now) c.together.ensures.kept takes c.requires absent)

pub replace-requires-clause-there : goal.replace-requires-clause-there
replace-requires-clause-there c =
    let there : is_row (row_at c.args.table c.args.key c.args.work.now.tables) c.args.before.now ≡ true = search rules in
    row_there c.args.table c.args.key c.args.before.now c.args.work.now.tables there

pub replace-requires-clause-put : goal.replace-requires-clause-put
replace-requires-clause-put c = λ t is.
    c.in_ok-put.ensures t (ap (λ (name : List ℕ). table_named name c.tables-2.result.now.tables) c.get-2.ensures ∙ ap (λ (ts : List Table). table_named c.args.table ts) c.tables-2.ensures ∙ is)
    ∙ ap (λ (row : List Value). primary_key t.definition row) c.get-3.ensures

pub returns-clause-ends : goal.returns-clause-ends
returns-clause-ends c = λ m takes.
    let there : is_row (row_at c.args.table c.args.key c.args.work.now.tables) c.args.before.now ≡ true = search rules in
    c.replace.ensures.ends m c.args.before.now takes (row_found (row_at c.args.table c.args.key c.args.work.now.tables) c.args.before.now there)
